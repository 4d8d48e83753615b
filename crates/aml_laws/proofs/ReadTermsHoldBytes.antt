-- The strings and the lists of bytes in terms that are read of bytes are bytes.
use Rattle.std.specs.Prelude.{◌≡◌, ℕ, zero, suc, ◌==◌, ◌||◌, ◌&&◌, List, [], ◌∷◌, ◌++◌, length, Bool, true, false, Option, Some, None, Ok, Err, if◌then◌else◌}
use Rattle.ar_space.specs.Outcome.{Outcome}
use Rattle.ar_space.specs.Change.{give}
use Rattle.aml_path.specs.declared.segment.Seg.{Seg}
use Rattle.aml_path.specs.Paths.{Name}
use Rattle.aml_arities.specs.declared.arities.Arity.{Arity}
use Rattle.aml_grammar.specs.declared.context.Context.{Context}
use Rattle.aml_grammar.specs.declared.context.Earlier.{Earlier}
use Rattle.aml_grammar.specs.declared.context.Position.{Position}
use Rattle.aml_grammar.specs.declared.context.Position.TheVariants as positions
use Rattle.aml_grammar.specs.declared.kinds.OperandKind.{OperandKind}
use Rattle.aml_grammar.specs.declared.kinds.OperandKind.TheVariants as kinds
use Rattle.aml_grammar.specs.declared.kinds.Row.{Row}
use Rattle.aml_grammar.specs.State.{State, Step, adding, is_next}
use Rattle.aml_grammar.specs.Tree.{Tree, Part, null}
use Rattle.aml_grammar.specs.Shape.{parts_of, trees_of}
use Rattle.aml_grammar.specs.Names.{starts_name}
use Rattle.aml_grammar.specs.Table.{row_of}
use Rattle.aml_grammar.specs.Operands.{declare, declare_earlier, name_operand, scope_name, alias_source, external_name, declared_name, integer_operand, method_flags, object_type, argument_count, text_operand, bytes_operand, reserved_field, access_field, extended_access_field, named_field}
use Rattle.aml_grammar.specs.Grammar.{stands, takes_name, costs_no_level, is_module_level, is_if, is_nothing, is_slot, at_else, in_loop, Inner, keeping, packed, items, term_operand, list_operand, super_name, target, simple_name, connection, connect_field, field, fields, fields_operand, operand, operands, row_operands, plain_term, else_term, else_operand, else_part, if_term, row_term, opcode, admitted_row, row_at, deeper, coded_term, element_name, Counting, argument_number, invocation, named_term, named, term_in, below, term_at, by_arities, max_depth, outermost, beginning, term_list, Reads, term_list_within, levels_allowed, within, reading_within}
use Rattle.aml_laws.specs.Plain.{AreBytes, PlainTree, PlainPart, PlainParts, PlainTrees}
use Rattle.aml_laws.proofs.Preorders.{either_branch}
use Rattle.aml_laws.proofs.ReadingStepsGiveBytes.{Any, ReadsBytes, Each, give_reads_bytes, stop_reads_bytes, if_reads_bytes, settle_reads_bytes, look_reads_bytes, then_reads_bytes, byte_reads_bytes, peek_reads_bytes, all_bytes_reads_bytes, text_reads_bytes, integer_reads_bytes, bit_count_reads_bytes, enter_reads_bytes, leave_reads_bytes, times_reads_bytes, until_end_reads_bytes, segment_reads_bytes, skipping_reads_bytes, name_string_reads_bytes}

parts_plain : (ps : List Part) → Each PlainPart ps → PlainParts (parts_of ps)
parts_plain [] h = tt
parts_plain (p ∷ ps) h = (h.0, parts_plain ps h.1)

trees_plain : (ts : List Tree) → Each PlainTree ts → PlainTrees (trees_of ts)
trees_plain [] h = tt
trees_plain (t ∷ ts) h = (h.0, trees_plain ts h.1)

with_last : (ps : List Part) (p : Part) → Each PlainPart ps → PlainPart p → Each PlainPart (ps ++ p ∷ [])
with_last [] p h i = (i, tt)
with_last (q ∷ ps) p h i = (h.0, with_last ps p h.1 i)

-- ---- operands that hold no terms

abbrev ReadFits : Part × Earlier → Type 0
ReadFits x = PlainPart x.0

declared_rest : (b : Bool) (path : List Seg) (n : ℕ) (external : Bool) (s : State) → AreBytes s.rest → AreBytes (if b then s else adding path n external s).rest
declared_rest true path n external s h = h
declared_rest false path n external s h = h

declare_reads_bytes : (context : Context) (path : List Seg) (n : ℕ) (external : Bool) → ReadsBytes Any (declare context path n external)
declare_reads_bytes context path n external = record { rest = λ s h. declared_rest context.body path n external s h; gives = λ s h a e. tt }

declare_earlier_reads_bytes : (context : Context) (path : Option (List Seg)) (n : ℕ) (external : Bool) → ReadsBytes Any (declare_earlier context path n external)
declare_earlier_reads_bytes context None n external = give_reads_bytes _ tt
declare_earlier_reads_bytes context (Some path) n external = declare_reads_bytes context path n external

name_operand_reads_bytes : ReadsBytes PlainPart name_operand
unfolding name_operand
name_operand_reads_bytes = then_reads_bytes _ _ name_string_reads_bytes (λ n u. give_reads_bytes _ tt)

scope_name_reads_bytes : (scope : List Seg) (earlier : Earlier) → ReadsBytes ReadFits (scope_name scope earlier)
unfolding scope_name
scope_name_reads_bytes scope earlier = then_reads_bytes _ _ name_string_reads_bytes (λ n u. then_reads_bytes _ _ (settle_reads_bytes _) (λ path v. then_reads_bytes _ _ (look_reads_bytes _) (λ place w. give_reads_bytes _ tt)))

alias_source_reads_bytes : (scope : List Seg) (earlier : Earlier) → ReadsBytes ReadFits (alias_source scope earlier)
unfolding alias_source
alias_source_reads_bytes scope earlier = then_reads_bytes _ _ name_string_reads_bytes (λ n u. then_reads_bytes _ _ (settle_reads_bytes _) (λ path v. then_reads_bytes _ _ (look_reads_bytes _) (λ place w. give_reads_bytes _ tt)))

external_name_reads_bytes : (scope : List Seg) (earlier : Earlier) → ReadsBytes ReadFits (external_name scope earlier)
unfolding external_name
external_name_reads_bytes scope earlier = then_reads_bytes _ _ name_string_reads_bytes (λ n u. then_reads_bytes _ _ (settle_reads_bytes _) (λ path v. give_reads_bytes _ tt))

declared_name_reads_bytes : (scope : List Seg) (context : Context) (start count : ℕ) (earlier : Earlier) → ReadsBytes ReadFits (declared_name scope context start count earlier)
unfolding declared_name
declared_name_reads_bytes scope context start count earlier = then_reads_bytes _ _ name_string_reads_bytes (λ n u. then_reads_bytes _ _ (settle_reads_bytes _) (λ path v. then_reads_bytes _ _ (declare_reads_bytes context path count false) (λ added w. give_reads_bytes _ tt)))

integer_operand_reads_bytes : (width : ℕ) → ReadsBytes PlainPart (integer_operand width)
unfolding integer_operand
integer_operand_reads_bytes width = then_reads_bytes _ _ (integer_reads_bytes width) (λ n u. give_reads_bytes _ tt)

method_flags_reads_bytes : (context : Context) (earlier : Earlier) → ReadsBytes ReadFits (method_flags context earlier)
unfolding method_flags
method_flags_reads_bytes context earlier = then_reads_bytes _ _ byte_reads_bytes (λ n u. then_reads_bytes _ _ (declare_earlier_reads_bytes context earlier.path _ false) (λ added v. give_reads_bytes _ tt))

object_type_reads_bytes : (earlier : Earlier) → ReadsBytes ReadFits (object_type earlier)
unfolding object_type
object_type_reads_bytes earlier = then_reads_bytes _ _ byte_reads_bytes (λ n u. give_reads_bytes _ tt)

argument_count_reads_bytes : (context : Context) (earlier : Earlier) → ReadsBytes ReadFits (argument_count context earlier)
unfolding argument_count
argument_count_reads_bytes context earlier = then_reads_bytes _ _ byte_reads_bytes (λ n u. then_reads_bytes _ _ (declare_earlier_reads_bytes context earlier.path _ true) (λ added v. give_reads_bytes _ tt))

text_operand_reads_bytes : ReadsBytes PlainPart text_operand
unfolding text_operand
text_operand_reads_bytes = then_reads_bytes _ _ text_reads_bytes (λ bs h. give_reads_bytes _ h)

bytes_operand_reads_bytes : ReadsBytes PlainPart bytes_operand
unfolding bytes_operand
bytes_operand_reads_bytes = then_reads_bytes _ _ all_bytes_reads_bytes (λ bs h. give_reads_bytes _ h)

reserved_field_reads_bytes : ReadsBytes PlainTree reserved_field
unfolding reserved_field
reserved_field_reads_bytes = then_reads_bytes _ _ byte_reads_bytes (λ code u. then_reads_bytes _ _ bit_count_reads_bytes (λ n v. give_reads_bytes _ (tt, tt)))

access_field_reads_bytes : ReadsBytes PlainTree access_field
unfolding access_field
access_field_reads_bytes = then_reads_bytes _ _ byte_reads_bytes (λ code u. then_reads_bytes _ _ byte_reads_bytes (λ access v. then_reads_bytes _ _ byte_reads_bytes (λ attribute w. give_reads_bytes _ (tt, (tt, tt)))))

extended_access_field_reads_bytes : ReadsBytes PlainTree extended_access_field
unfolding extended_access_field
extended_access_field_reads_bytes = then_reads_bytes _ _ byte_reads_bytes (λ code u. then_reads_bytes _ _ byte_reads_bytes (λ access v. then_reads_bytes _ _ byte_reads_bytes (λ attribute w. then_reads_bytes _ _ byte_reads_bytes (λ count x. give_reads_bytes _ (tt, (tt, (tt, tt)))))))

named_field_reads_bytes : (scope : List Seg) (context : Context) → ReadsBytes PlainTree (named_field scope context)
unfolding named_field
named_field_reads_bytes scope context = then_reads_bytes _ _ segment_reads_bytes (λ s u. then_reads_bytes _ _ (declare_reads_bytes context _ 0 false) (λ added v. then_reads_bytes _ _ bit_count_reads_bytes (λ n w. give_reads_bytes _ (tt, (tt, tt)))))

keeping_reads_bytes : (earlier : Earlier) (m : Step Part) → ReadsBytes PlainPart m → ReadsBytes ReadFits (keeping earlier m)
keeping_reads_bytes earlier m h = then_reads_bytes _ _ h (λ p fit. give_reads_bytes _ fit)

packed_reads_bytes : {A : Type 0} {Fit : A → Type 0} (b : Bool) (m : Step A) → ReadsBytes Fit m → ReadsBytes Fit (packed b m)
packed_reads_bytes false m h = h
packed_reads_bytes true m h = then_reads_bytes _ _ enter_reads_bytes (λ outer o. then_reads_bytes _ _ h (λ x fit. leave_reads_bytes outer x o fit))

-- ---- operands and terms, where those one level below hold bytes

abbrev InnerFits : Inner → Type 0
InnerFits inner_term = (position : Position) (scope : List Seg) (context : Context) → ReadsBytes PlainTree (inner_term position scope context)

module _ (inner_term : Inner) (h : InnerFits inner_term) where
  items_reads_bytes : (position : Position) (scope : List Seg) (context : Context) → ReadsBytes (Each PlainTree) (items inner_term position scope context)
  unfolding items
  items_reads_bytes position scope context = record { rest = λ s b. (until_end_reads_bytes _ (h position scope context) (length s.rest)).rest s b; gives = λ s b. (until_end_reads_bytes _ (h position scope context) (length s.rest)).gives s b }

  term_operand_reads_bytes : (position : Position) (scope : List Seg) (context : Context) → ReadsBytes PlainPart (term_operand inner_term position scope context)
  unfolding term_operand
  term_operand_reads_bytes position scope context = then_reads_bytes _ _ (h position scope context) (λ t fit. give_reads_bytes _ fit)

  list_operand_reads_bytes : (position : Position) (scope : List Seg) (context : Context) → ReadsBytes PlainPart (list_operand inner_term position scope context)
  unfolding list_operand
  list_operand_reads_bytes position scope context = then_reads_bytes _ _ (items_reads_bytes position scope context) (λ ts fit. give_reads_bytes _ (trees_plain ts fit))

  super_name_reads_bytes : (scope : List Seg) (context : Context) → ReadsBytes PlainPart (super_name inner_term scope context)
  unfolding super_name
  super_name_reads_bytes scope context = then_reads_bytes _ _ peek_reads_bytes (λ b u. if_reads_bytes (b == 0) _ _ (stop_reads_bytes _) (if_reads_bytes (starts_name b) _ _ name_operand_reads_bytes (term_operand_reads_bytes _ scope context)))

  target_reads_bytes : (scope : List Seg) (context : Context) → ReadsBytes PlainPart (target inner_term scope context)
  unfolding target
  target_reads_bytes scope context = then_reads_bytes _ _ peek_reads_bytes (λ b u. if_reads_bytes (b == 0) _ _ (skipping_reads_bytes _ (give_reads_bytes _ tt)) (super_name_reads_bytes scope context))

  simple_name_reads_bytes : (scope : List Seg) (context : Context) → ReadsBytes PlainPart (simple_name inner_term scope context)
  unfolding simple_name
  simple_name_reads_bytes scope context = then_reads_bytes _ _ (look_reads_bytes _) (λ here u. then_reads_bytes _ _ peek_reads_bytes (λ b v. if_reads_bytes (b == 0 || starts_name b || is_slot b) _ _ (super_name_reads_bytes scope context) (stop_reads_bytes _)))

  connection_reads_bytes : (scope : List Seg) (context : Context) → ReadsBytes PlainPart (connection inner_term scope context)
  unfolding connection
  connection_reads_bytes scope context = then_reads_bytes _ _ peek_reads_bytes (λ b u. if_reads_bytes (starts_name b) _ _ name_operand_reads_bytes (if_reads_bytes (b == 0x11) _ _ (term_operand_reads_bytes _ scope context) (stop_reads_bytes _)))

  connect_field_reads_bytes : (scope : List Seg) (context : Context) → ReadsBytes PlainTree (connect_field inner_term scope context)
  unfolding connect_field
  connect_field_reads_bytes scope context = then_reads_bytes _ _ byte_reads_bytes (λ code u. then_reads_bytes _ _ (connection_reads_bytes scope context) (λ p fit. give_reads_bytes _ (fit, tt)))

  field_reads_bytes : (scope : List Seg) (context : Context) → ReadsBytes PlainTree (field inner_term scope context)
  unfolding field
  field_reads_bytes scope context =
      then_reads_bytes _ _ peek_reads_bytes (λ b u. if_reads_bytes (b == 0) _ _ reserved_field_reads_bytes (if_reads_bytes (b == 1) _ _ access_field_reads_bytes (if_reads_bytes (b == 2) _ _ (connect_field_reads_bytes scope context) (if_reads_bytes (b == 3) _ _ extended_access_field_reads_bytes (named_field_reads_bytes scope context)))))

  fields_reads_bytes : (scope : List Seg) (context : Context) → ReadsBytes (Each PlainTree) (fields inner_term scope context)
  unfolding fields
  fields_reads_bytes scope context = record { rest = λ s b. (until_end_reads_bytes _ (field_reads_bytes scope context) (length s.rest)).rest s b; gives = λ s b. (until_end_reads_bytes _ (field_reads_bytes scope context) (length s.rest)).gives s b }

  fields_operand_reads_bytes : (scope : List Seg) (context : Context) → ReadsBytes PlainPart (fields_operand inner_term scope context)
  unfolding fields_operand
  fields_operand_reads_bytes scope context = then_reads_bytes _ _ (fields_reads_bytes scope context) (λ ts fit. give_reads_bytes _ (trees_plain ts fit))

  operand_reads_bytes : (scope : List Seg) (context : Context) (start : ℕ) (k : OperandKind) (earlier : Earlier) → ReadsBytes ReadFits (operand inner_term scope context start k earlier)
  unfolding operand
  operand_reads_bytes scope context start kinds.Nothing earlier = give_reads_bytes _ tt
  operand_reads_bytes scope context start kinds.NameString earlier = keeping_reads_bytes earlier _ name_operand_reads_bytes
  operand_reads_bytes scope context start kinds.ScopeName earlier = scope_name_reads_bytes scope earlier
  operand_reads_bytes scope context start kinds.AliasSource earlier = alias_source_reads_bytes scope earlier
  operand_reads_bytes scope context start kinds.AliasName earlier = declared_name_reads_bytes scope context start earlier.count earlier
  operand_reads_bytes scope context start kinds.DeclaredName earlier = declared_name_reads_bytes scope context start 0 earlier
  operand_reads_bytes scope context start kinds.MethodFlags earlier = method_flags_reads_bytes context earlier
  operand_reads_bytes scope context start kinds.ExternalName earlier = external_name_reads_bytes scope earlier
  operand_reads_bytes scope context start kinds.ObjectType earlier = object_type_reads_bytes earlier
  operand_reads_bytes scope context start kinds.ArgumentCount earlier = argument_count_reads_bytes context earlier
  operand_reads_bytes scope context start kinds.ByteData earlier = keeping_reads_bytes earlier _ (integer_operand_reads_bytes 1)
  operand_reads_bytes scope context start kinds.WordData earlier = keeping_reads_bytes earlier _ (integer_operand_reads_bytes 2)
  operand_reads_bytes scope context start kinds.DWordData earlier = keeping_reads_bytes earlier _ (integer_operand_reads_bytes 4)
  operand_reads_bytes scope context start kinds.QWordData earlier = keeping_reads_bytes earlier _ (integer_operand_reads_bytes 8)
  operand_reads_bytes scope context start kinds.AsciiCharList earlier = keeping_reads_bytes earlier _ text_operand_reads_bytes
  operand_reads_bytes scope context start kinds.TermArg earlier = keeping_reads_bytes earlier _ (term_operand_reads_bytes _ scope context)
  operand_reads_bytes scope context start kinds.DataObject earlier = keeping_reads_bytes earlier _ (term_operand_reads_bytes _ scope context)
  operand_reads_bytes scope context start kinds.SuperName earlier = keeping_reads_bytes earlier _ (super_name_reads_bytes scope context)
  operand_reads_bytes scope context start kinds.Target earlier = keeping_reads_bytes earlier _ (target_reads_bytes scope context)
  operand_reads_bytes scope context start kinds.SimpleName earlier = keeping_reads_bytes earlier _ (simple_name_reads_bytes scope context)
  operand_reads_bytes scope context start kinds.TermList earlier = keeping_reads_bytes earlier _ (list_operand_reads_bytes _ _ context)
  operand_reads_bytes scope context start kinds.LoopTermList earlier = keeping_reads_bytes earlier _ (list_operand_reads_bytes _ _ (in_loop context))
  operand_reads_bytes scope context start kinds.ByteList earlier = keeping_reads_bytes earlier _ bytes_operand_reads_bytes
  operand_reads_bytes scope context start kinds.PackageElementList earlier = keeping_reads_bytes earlier _ (list_operand_reads_bytes _ _ context)
  operand_reads_bytes scope context start kinds.FieldList earlier = keeping_reads_bytes earlier _ (fields_operand_reads_bytes scope context)

  operands_reads_bytes : (scope : List Seg) (context : Context) (start : ℕ) (ks : List OperandKind) (earlier : Earlier) → ReadsBytes (Each PlainPart) (operands inner_term scope context start ks earlier)
  unfolding operands
  operands_reads_bytes scope context start [] earlier = give_reads_bytes _ tt
  operands_reads_bytes scope context start (k ∷ ks) earlier = if_reads_bytes (is_nothing k) _ _ (give_reads_bytes _ tt) (then_reads_bytes _ _ (operand_reads_bytes scope context start k earlier) (λ x fit. then_reads_bytes _ _ (operands_reads_bytes scope context start ks x.1) (λ ps all. give_reads_bytes _ (fit, all))))

  row_operands_reads_bytes : (scope : List Seg) (context : Context) (start : ℕ) (row : Row) → ReadsBytes (Each PlainPart) (row_operands inner_term scope context start row)
  row_operands_reads_bytes scope context start row = packed_reads_bytes row.2 _ (operands_reads_bytes scope context start _ _)

  plain_term_reads_bytes : (scope : List Seg) (context : Context) (start : ℕ) (row : Row) → ReadsBytes PlainTree (plain_term inner_term scope context start row)
  unfolding plain_term
  plain_term_reads_bytes scope context start row = then_reads_bytes _ _ (row_operands_reads_bytes scope context start row) (λ ps fit. give_reads_bytes _ (parts_plain ps fit))

  else_term_reads_bytes : (scope : List Seg) (context : Context) → ReadsBytes PlainTree (else_term inner_term scope context)
  unfolding else_term
  else_term_reads_bytes scope context = then_reads_bytes _ _ byte_reads_bytes (λ code u. then_reads_bytes _ _ (packed_reads_bytes true _ (list_operand_reads_bytes _ scope context)) (λ p fit. give_reads_bytes _ (fit, tt)))

  else_operand_reads_bytes : (scope : List Seg) (context : Context) → ReadsBytes PlainPart (else_operand inner_term scope context)
  unfolding else_operand
  else_operand_reads_bytes scope context = then_reads_bytes _ _ (else_term_reads_bytes scope context) (λ t fit. give_reads_bytes _ fit)

  else_part_reads_bytes : (scope : List Seg) (context : Context) (start : ℕ) → ReadsBytes PlainPart (else_part inner_term scope context start)
  unfolding else_part give
  else_part_reads_bytes scope context start = record {
    rest = λ s b. either_branch (λ (x : Outcome Part × State). AreBytes x.1.rest) (is_next 0xA1 s.rest) _ _ ((else_operand_reads_bytes scope (at_else context start s.at)).rest s b) b;
    gives = λ s b. either_branch (λ (x : Outcome Part × State). (p : Part) → x.0 ≡ Ok p → PlainPart p) (is_next 0xA1 s.rest) _ _ ((else_operand_reads_bytes scope (at_else context start s.at)).gives s b) ((give_reads_bytes {Fit = PlainPart} null tt).gives s b);
  }

  if_term_reads_bytes : (scope : List Seg) (context : Context) (start : ℕ) (row : Row) → ReadsBytes PlainTree (if_term inner_term scope context start row)
  unfolding if_term
  if_term_reads_bytes scope context start row = then_reads_bytes _ _ (row_operands_reads_bytes scope context start row) (λ ps fit. then_reads_bytes _ _ (else_part_reads_bytes scope context start) (λ e else_fit. give_reads_bytes _ (parts_plain _ (with_last ps e fit else_fit))))

  row_term_reads_bytes : (scope : List Seg) (context : Context) (start : ℕ) (row : Row) → ReadsBytes PlainTree (row_term inner_term scope context start row)
  unfolding row_term
  row_term_reads_bytes scope context start row = if_reads_bytes (is_if row.0) _ _ (if_term_reads_bytes scope context start row) (plain_term_reads_bytes scope context start row)

-- ---- opcodes

opcode_reads_bytes : ReadsBytes Any opcode
unfolding opcode
opcode_reads_bytes = then_reads_bytes _ _ byte_reads_bytes (λ b u. if_reads_bytes (b == 0x5B) _ _ (then_reads_bytes _ _ byte_reads_bytes (λ e v. give_reads_bytes _ tt)) (give_reads_bytes _ tt))

admitted_row_reads_bytes : (position : Position) (context : Context) (start : ℕ) (o : Option Row) → ReadsBytes Any (admitted_row position context start o)
admitted_row_reads_bytes position context start None = stop_reads_bytes _
admitted_row_reads_bytes position context start (Some row) = if_reads_bytes (stands row.1 position context) _ _ (if_reads_bytes (context.body && is_module_level row.1) _ _ (stop_reads_bytes _) (give_reads_bytes _ tt)) (stop_reads_bytes _)

row_at_reads_bytes : (position : Position) (context : Context) (start : ℕ) → ReadsBytes Any (row_at position context start)
unfolding row_at
row_at_reads_bytes position context start = then_reads_bytes _ _ opcode_reads_bytes (λ n u. admitted_row_reads_bytes position context start (row_of n))

-- ---- terms

abbrev BelowFits : Option Inner → Type 0
BelowFits None = Unit {0}
BelowFits (Some i) = InnerFits i

deeper_reads_bytes : (o : Option Inner) (item : ℕ) (go : Inner → Step Tree) → BelowFits o → ((i : Inner) → InnerFits i → ReadsBytes PlainTree (go i)) → ReadsBytes PlainTree (deeper o item go)
unfolding deeper
deeper_reads_bytes None item go h k = stop_reads_bytes _
deeper_reads_bytes (Some i) item go h k = k i h

coded_term_reads_bytes : (o : Option Inner) → BelowFits o → (position : Position) (scope : List Seg) (context : Context) (start : ℕ) → ReadsBytes PlainTree (coded_term o position scope context start)
unfolding coded_term
coded_term_reads_bytes o h position scope context start =
    then_reads_bytes _ _ (row_at_reads_bytes position context start) (λ row u. if_reads_bytes (costs_no_level row.1 position) _ _ (give_reads_bytes _ tt) (deeper_reads_bytes o _ _ h (λ i fit. row_term_reads_bytes i fit scope context start row)))

element_name_reads_bytes : ReadsBytes PlainTree element_name
unfolding element_name
element_name_reads_bytes = then_reads_bytes _ _ name_string_reads_bytes (λ n u. give_reads_bytes _ (tt, tt))

marked_rest : (b : Bool) (s t : State) → AreBytes s.rest → AreBytes t.rest → AreBytes (if b then s else t).rest
marked_rest true s t h i = h
marked_rest false s t h i = i

module _ (counting : Counting) where
  argument_number_reads_bytes : (start : ℕ) (scope : List Seg) (n : Name) (path : List Seg) → ReadsBytes Any (argument_number counting start scope n path)
  unfolding argument_number
  argument_number_reads_bytes start scope n path = record { rest = λ s h. marked_rest (counting start scope n path s == 0) s _ h h; gives = λ s h a e. tt }

  invocation_reads_bytes : (i : Inner) → InnerFits i → (scope : List Seg) (context : Context) (start : ℕ) → ReadsBytes PlainTree (invocation counting i scope context start)
  unfolding invocation
  invocation_reads_bytes i h scope context start =
      then_reads_bytes _ _ name_string_reads_bytes (λ n u. then_reads_bytes _ _ (settle_reads_bytes _) (λ path v. then_reads_bytes _ _ (argument_number_reads_bytes start scope n path) (λ count w. then_reads_bytes _ _ (times_reads_bytes _ (h positions.TermArg scope context) count) (λ ts fit. give_reads_bytes _ (tt, (trees_plain ts fit, tt))))))

  named_term_reads_bytes : (i : Inner) → InnerFits i → (position : Position) (scope : List Seg) (context : Context) (start : ℕ) → ReadsBytes PlainTree (named_term counting i position scope context start)
  named_term_reads_bytes i h positions.PackageElement scope context start = element_name_reads_bytes
  named_term_reads_bytes i h _ scope context start = invocation_reads_bytes i h scope context start

  named_reads_bytes : (o : Option Inner) → BelowFits o → (position : Position) (scope : List Seg) (context : Context) (start : ℕ) → ReadsBytes PlainTree (named counting o position scope context start)
  unfolding named
  named_reads_bytes o h position scope context start = if_reads_bytes (takes_name position) _ _ (deeper_reads_bytes o _ _ h (λ i fit. named_term_reads_bytes i fit position scope context start)) (stop_reads_bytes _)

  term_in_reads_bytes : (o : Option Inner) → BelowFits o → InnerFits (term_in counting o)
  unfolding term_in
  term_in_reads_bytes o h position scope context = then_reads_bytes _ _ (look_reads_bytes _) (λ start u. then_reads_bytes _ _ peek_reads_bytes (λ b v. if_reads_bytes (starts_name b) _ _ (named_reads_bytes o h position scope _ start) (coded_term_reads_bytes o h position scope _ start)))

  below_reads_bytes : (levels : ℕ) → BelowFits (below counting levels)
  unfolding below
  below_reads_bytes zero = tt
  below_reads_bytes (suc levels) = term_in_reads_bytes (below counting levels) (below_reads_bytes levels)

  term_at_reads_bytes : (levels : ℕ) → InnerFits (term_at counting levels)
  unfolding term_at
  term_at_reads_bytes levels = term_in_reads_bytes (below counting levels) (below_reads_bytes levels)

  -- ---- whole lists

  term_list_plain : (levels : ℕ) (bs : List ℕ) (scope : List Seg) (context : Context) (arities : List Arity) → AreBytes bs → (ts : List Tree) → (items (term_at counting levels) positions.ListItem scope context (beginning bs arities)).0 ≡ Ok ts → PlainTrees (trees_of ts)
  term_list_plain levels bs scope context arities h ts is = trees_plain ts ((items_reads_bytes _ (term_at_reads_bytes levels) positions.ListItem scope context).gives (beginning bs arities) h ts is)

pub read_terms_plain : (bs : List ℕ) (scope : List Seg) (body : Bool) (arities : List Arity) (ts : List Tree) → AreBytes bs → Reads bs scope body arities ts → PlainTrees (trees_of ts)
unfolding term_list
read_terms_plain bs scope body arities ts h is = term_list_plain by_arities max_depth bs scope (outermost body) arities h ts is

pub list_within_plain : (levels : ℕ) (bs : List ℕ) (scope : List Seg) (body : Bool) (arities : List Arity) (ts : List Tree) → AreBytes bs → (term_list_within levels by_arities bs scope body arities).0 ≡ Ok ts → PlainTrees (trees_of ts)
unfolding term_list_within
list_within_plain levels bs scope body arities ts h is = term_list_plain by_arities (levels_allowed levels) bs scope (outermost body) arities h ts is

taken_within : {A : Type 0} (levels : ℕ) (o : Outcome A) (a : A) → within levels o ≡ Ok a → o ≡ Ok a
taken_within levels (Ok b) a is = is
taken_within levels (Err e) a is = absurd (cc is)

pub read_within_plain : (levels : ℕ) (bs : List ℕ) (scope : List Seg) (body : Bool) (arities : List Arity) (ts : List Tree) → AreBytes bs → reading_within levels bs scope body arities ≡ Ok ts → PlainTrees (trees_of ts)
read_within_plain levels bs scope body arities ts h is = list_within_plain levels bs scope body arities ts h (taken_within levels _ ts is)
