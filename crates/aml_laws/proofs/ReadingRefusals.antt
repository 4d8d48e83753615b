-- Reading terms is refused only by what is told of terms and names. A lemma `x_reads` says so of each outcome of x.
use Rattle.std.specs.Prelude.{Bool, Err, List, None, Ok, Option, Some, [], false, length, nat_lt, suc, true, zero, ℕ, ◌&&◌, ◌+◌, ◌-◌, ◌==◌, ◌||◌, ◌∷◌}
use Rattle.ar_space.specs.Outcome.{Outcome}
use Rattle.aml_path.specs.Characters.{is_lead_name_char, is_name_char}
use Rattle.aml_path.specs.Paths.{Name}
use Rattle.aml_path.specs.declared.segment.Seg.{Seg}
use Rattle.aml_grammar.specs.DeclaredNames.{allowed, allowed_path, begins_outside, declared_path}
use Rattle.aml_grammar.specs.Grammar.{Counting, Inner, admitted_row, argument_number, at_else, beginning, below, by_arities, coded_term, connect_field, connection, costs_no_level, deeper, element_name, else_operand, else_part, else_term, field, fields, fields_operand, if_term, in_loop, invocation, is_if, is_module_level, is_nothing, is_slot, items, keeping, list_operand, max_depth, named, named_term, opcode, operand, operands, outermost, packed, plain_term, reading, row_at, row_operands, row_term, simple_name, stands, super_name, table_reading, takes_name, target, term_at, term_in, term_list, term_operand, with_arities, term_list_within, levels_allowed, reading_within, table_reading_within}
use Rattle.aml_grammar.specs.Names.{counted_segments, lead_name_char, multiple_segments, name_at, name_char, name_string, only, parents, relative_name, rooted_name, segment, segments, segments_at, skipping, starts_name}
use Rattle.aml_grammar.specs.Operands.{access_field, alias_source, argument_count, bytes_operand, declare, declare_earlier, declared_name, extended_access_field, external_name, integer_operand, method_flags, name_operand, named_field, object_type, reserved_field, scope_name, text_operand}
use Rattle.aml_grammar.specs.State.{State, Step, all_bytes, bit_count, byte, byte_of, enter, integer, is_next, leave, look, narrow, next_bytes, package_size, peek, peek_of, size_after, text, times, until_end, until_of}
use Rattle.aml_grammar.specs.Table.{row_of}
use Rattle.aml_grammar.specs.Tree.{Part, Tree}
use Rattle.aml_arities.specs.declared.arities.Arity.{Arity}
use Rattle.aml_grammar.specs.declared.context.Context.{Context}
use Rattle.aml_grammar.specs.declared.context.Earlier.{Earlier}
use Rattle.aml_grammar.specs.declared.context.Position.TheVariants as positions
use Rattle.aml_grammar.specs.declared.context.Position.{Position}
use Rattle.aml_grammar.specs.declared.kinds.OperandKind.TheVariants as kinds
use Rattle.aml_grammar.specs.declared.kinds.OperandKind.{OperandKind}
use Rattle.aml_grammar.specs.declared.kinds.Row.{Row}
use Rattle.aml_laws.proofs.ReadingChanges.{AllReads, branch_reads, direct_reads, give_reads, if_all_reads, settle_reads, stop_reads, then_reads}
use Rattle.aml_laws.proofs.TermRefusals.{Reads, ReadsWithin, followed_reads, if_reads, resolved_reads, seg_of_reads, within_reads}

allowed_reads : (context : Context) (start : ℕ) (n : Name) (path : List Seg) → Reads (allowed context start n path)
allowed_reads context start n path = if_reads (context.body && begins_outside n) _ _ tt tt

allowed_path_reads : (scope : List Seg) (context : Context) (start : ℕ) (n : Name) → Reads (allowed_path scope context start n)
unfolding allowed_path
allowed_path_reads scope context start n = followed_reads _ _ (resolved_reads n scope) (λ path. allowed_reads context start n path)

declared_path_reads : (scope : List Seg) (context : Context) (start : ℕ) (n : Name) → Reads (declared_path scope context start n)
unfolding declared_path
declared_path_reads scope context start n = if_reads (length n.segments == 0) _ _ tt (allowed_path_reads scope context start n)

-- ---- bytes

byte_of_reads : (bs : List ℕ) (s : State) → Reads (byte_of bs s).0
byte_of_reads [] s = tt
byte_of_reads (b ∷ bs) s = tt

byte_reads : AllReads byte
unfolding byte
byte_reads = direct_reads _ (λ s. byte_of_reads s.rest s)

peek_of_reads : (bs : List ℕ) (s : State) → Reads (peek_of bs s).0
peek_of_reads [] s = tt
peek_of_reads (b ∷ bs) s = tt

peek_reads : AllReads peek
unfolding peek
peek_reads = direct_reads _ (λ s. peek_of_reads s.rest s)

look_reads : {A : Type 0} (f : State → A) → AllReads (look f)
unfolding look
look_reads f = direct_reads _ (λ s. tt)

next_bytes_reads : (n : ℕ) → AllReads (next_bytes n)
unfolding next_bytes
next_bytes_reads n = direct_reads _ (λ s. branch_reads (nat_lt (length s.rest) n) _ _ tt tt)

all_bytes_reads : AllReads all_bytes
unfolding all_bytes
all_bytes_reads = direct_reads _ (λ s. tt)

text_reads : AllReads text
unfolding text
text_reads = then_reads _ _ (look_reads _) (λ n. then_reads _ _ (next_bytes_reads (n + 1)) (λ bs. give_reads _))

integer_reads : (n : ℕ) → AllReads (integer n)
unfolding integer
integer_reads n = then_reads _ _ (next_bytes_reads n) (λ bs. give_reads _)

bit_count_reads : AllReads bit_count
unfolding bit_count
bit_count_reads = then_reads _ _ byte_reads (λ lead. then_reads _ _ (integer_reads _) (λ more. give_reads _))

size_after_reads : (start spent total : ℕ) → AllReads (size_after start spent total)
unfolding size_after
size_after_reads start spent total = direct_reads _ (λ s. branch_reads (nat_lt total spent || nat_lt (length s.rest) (total - spent)) _ _ tt tt)

package_size_reads : AllReads package_size
unfolding package_size
package_size_reads = then_reads _ _ (look_reads _) (λ start. then_reads _ _ byte_reads (λ lead. then_reads _ _ (integer_reads _) (λ more. size_after_reads _ _ _)))

narrow_reads : (n : ℕ) → AllReads (narrow n)
narrow_reads n = direct_reads _ (λ s. tt)

enter_reads : AllReads enter
unfolding enter
enter_reads = then_reads _ _ package_size_reads (λ n. narrow_reads n)

leave_reads : {A : Type 0} (outer : ℕ × List ℕ) (a : A) → AllReads (leave outer a)
leave_reads outer a = direct_reads _ (λ s. tt)

-- ---- again and again

module _ {A : Type 0} (m : Step A) (h : AllReads m) where
  times_reads : (n : ℕ) → AllReads (times m n)
  unfolding times
  times_reads zero = give_reads _
  times_reads (suc n) = then_reads _ _ h (λ x. then_reads _ _ (times_reads n) (λ xs. give_reads _))

  until_of_reads : (more : Step (List A)) → AllReads more → (bs : List ℕ) → AllReads (until_of m more bs)
  until_of_reads more i [] = give_reads _
  until_of_reads more i (b ∷ bs) = then_reads _ _ h (λ x. then_reads _ _ i (λ xs. give_reads _))

  until_end_reads : (n : ℕ) → AllReads (until_end m n)
  unfolding until_end
  until_end_reads zero = direct_reads _ (λ s. tt)
  until_end_reads (suc n) = direct_reads _ (λ s. (until_of_reads _ (until_end_reads n) s.rest).reads s)

-- ---- names

only_reads : (test : ℕ → Bool) (b : ℕ) → AllReads (only test b)
only_reads test b = if_all_reads (test b) _ _ (give_reads _) (stop_reads _ tt)

lead_name_char_reads : AllReads lead_name_char
unfolding lead_name_char
lead_name_char_reads = then_reads _ _ byte_reads (λ b. only_reads is_lead_name_char b)

name_char_reads : AllReads name_char
unfolding name_char
name_char_reads = then_reads _ _ byte_reads (λ b. only_reads is_name_char b)

segment_reads : AllReads segment
unfolding segment
segment_reads = then_reads _ _ lead_name_char_reads (λ a. then_reads _ _ name_char_reads (λ b. then_reads _ _ name_char_reads (λ c. then_reads _ _ name_char_reads (λ d. settle_reads _ (seg_of_reads _)))))

skipping_reads : {A : Type 0} (m : Step A) → AllReads m → AllReads (skipping m)
skipping_reads m h = then_reads _ _ byte_reads (λ b. h)

counted_segments_reads : (n : ℕ) → AllReads (counted_segments n)
counted_segments_reads n = if_all_reads (n == 0) _ _ (stop_reads _ tt) (times_reads _ segment_reads n)

multiple_segments_reads : AllReads multiple_segments
unfolding multiple_segments
multiple_segments_reads = then_reads _ _ byte_reads (λ n. counted_segments_reads n)

segments_at_reads : (b : ℕ) → AllReads (segments_at b)
segments_at_reads b =
    if_all_reads (b == 0) _ _ (skipping_reads _ (give_reads _)) (if_all_reads (b == 46) _ _ (skipping_reads _ (times_reads _ segment_reads 2)) (if_all_reads (b == 47) _ _ (skipping_reads _ multiple_segments_reads) (times_reads _ segment_reads 1)))

segments_reads : AllReads segments
unfolding segments
segments_reads = then_reads _ _ peek_reads (λ b. segments_at_reads b)

parents_reads : AllReads parents
unfolding parents
parents_reads = direct_reads _ (λ s. tt)

rooted_name_reads : AllReads rooted_name
unfolding rooted_name
rooted_name_reads = then_reads _ _ byte_reads (λ b. then_reads _ _ segments_reads (λ ss. give_reads _))

relative_name_reads : AllReads relative_name
unfolding relative_name
relative_name_reads = then_reads _ _ parents_reads (λ n. then_reads _ _ segments_reads (λ ss. give_reads _))

name_at_reads : (b : ℕ) → AllReads (name_at b)
name_at_reads b = if_all_reads (b == 0) _ _ (stop_reads _ tt) (if_all_reads (b == 92) _ _ rooted_name_reads relative_name_reads)

name_string_reads : AllReads name_string
unfolding name_string
name_string_reads = then_reads _ _ peek_reads (λ b. name_at_reads b)

-- ---- operands that hold no terms

declare_reads : (context : Context) (path : List Seg) (n : ℕ) (external : Bool) → AllReads (declare context path n external)
declare_reads context path n external = direct_reads _ (λ s. tt)

declare_earlier_reads : (context : Context) (path : Option (List Seg)) (n : ℕ) (external : Bool) → AllReads (declare_earlier context path n external)
declare_earlier_reads context None n external = give_reads _
declare_earlier_reads context (Some path) n external = declare_reads context path n external

name_operand_reads : AllReads name_operand
unfolding name_operand
name_operand_reads = then_reads _ _ name_string_reads (λ n. give_reads _)

scope_name_reads : (scope : List Seg) (earlier : Earlier) → AllReads (scope_name scope earlier)
unfolding scope_name
scope_name_reads scope earlier = then_reads _ _ name_string_reads (λ n. then_reads _ _ (settle_reads _ (resolved_reads n scope)) (λ path. then_reads _ _ (look_reads _) (λ place. give_reads _)))

alias_source_reads : (scope : List Seg) (earlier : Earlier) → AllReads (alias_source scope earlier)
unfolding alias_source
alias_source_reads scope earlier = then_reads _ _ name_string_reads (λ n. then_reads _ _ (settle_reads _ (resolved_reads n scope)) (λ path. then_reads _ _ (look_reads _) (λ place. give_reads _)))

external_name_reads : (scope : List Seg) (earlier : Earlier) → AllReads (external_name scope earlier)
unfolding external_name
external_name_reads scope earlier = then_reads _ _ name_string_reads (λ n. then_reads _ _ (settle_reads _ (resolved_reads n scope)) (λ path. give_reads _))

declared_name_reads : (scope : List Seg) (context : Context) (start count : ℕ) (earlier : Earlier) → AllReads (declared_name scope context start count earlier)
unfolding declared_name
declared_name_reads scope context start count earlier = then_reads _ _ name_string_reads (λ n. then_reads _ _ (settle_reads _ (declared_path_reads scope context start n)) (λ path. then_reads _ _ (declare_reads context path count false) (λ added. give_reads _)))

integer_operand_reads : (width : ℕ) → AllReads (integer_operand width)
unfolding integer_operand
integer_operand_reads width = then_reads _ _ (integer_reads width) (λ n. give_reads _)

method_flags_reads : (context : Context) (earlier : Earlier) → AllReads (method_flags context earlier)
unfolding method_flags
method_flags_reads context earlier = then_reads _ _ byte_reads (λ n. then_reads _ _ (declare_earlier_reads context earlier.path _ false) (λ added. give_reads _))

object_type_reads : (earlier : Earlier) → AllReads (object_type earlier)
unfolding object_type
object_type_reads earlier = then_reads _ _ byte_reads (λ n. give_reads _)

argument_count_reads : (context : Context) (earlier : Earlier) → AllReads (argument_count context earlier)
unfolding argument_count
argument_count_reads context earlier = then_reads _ _ byte_reads (λ n. then_reads _ _ (declare_earlier_reads context earlier.path _ true) (λ added. give_reads _))

text_operand_reads : AllReads text_operand
unfolding text_operand
text_operand_reads = then_reads _ _ text_reads (λ bs. give_reads _)

bytes_operand_reads : AllReads bytes_operand
unfolding bytes_operand
bytes_operand_reads = then_reads _ _ all_bytes_reads (λ bs. give_reads _)

reserved_field_reads : AllReads reserved_field
unfolding reserved_field
reserved_field_reads = then_reads _ _ byte_reads (λ code. then_reads _ _ bit_count_reads (λ n. give_reads _))

access_field_reads : AllReads access_field
unfolding access_field
access_field_reads = then_reads _ _ byte_reads (λ code. then_reads _ _ byte_reads (λ access. then_reads _ _ byte_reads (λ attribute. give_reads _)))

extended_access_field_reads : AllReads extended_access_field
unfolding extended_access_field
extended_access_field_reads = then_reads _ _ byte_reads (λ code. then_reads _ _ byte_reads (λ access. then_reads _ _ byte_reads (λ attribute. then_reads _ _ byte_reads (λ count. give_reads _))))

named_field_reads : (scope : List Seg) (context : Context) → AllReads (named_field scope context)
unfolding named_field
named_field_reads scope context = then_reads _ _ segment_reads (λ s. then_reads _ _ (declare_reads context _ 0 false) (λ added. then_reads _ _ bit_count_reads (λ n. give_reads _)))

keeping_reads : (earlier : Earlier) (m : Step Part) → AllReads m → AllReads (keeping earlier m)
keeping_reads earlier m h = then_reads _ _ h (λ p. give_reads _)

packed_reads : {A : Type 0} (b : Bool) (m : Step A) → AllReads m → AllReads (packed b m)
packed_reads false m h = h
packed_reads true m h = then_reads _ _ enter_reads (λ outer. then_reads _ _ h (λ x. leave_reads outer x))

-- ---- operands and terms, where those one level below are clean

abbrev InnerClean : Inner → Type 0
InnerClean inner_term = (position : Position) (scope : List Seg) (context : Context) → AllReads (inner_term position scope context)

module _ (inner_term : Inner) (h : InnerClean inner_term) where
  items_reads : (position : Position) (scope : List Seg) (context : Context) → AllReads (items inner_term position scope context)
  unfolding items
  items_reads position scope context = direct_reads _ (λ s. (until_end_reads _ (h position scope context) (length s.rest)).reads s)

  term_operand_reads : (position : Position) (scope : List Seg) (context : Context) → AllReads (term_operand inner_term position scope context)
  unfolding term_operand
  term_operand_reads position scope context = then_reads _ _ (h position scope context) (λ t. give_reads _)

  list_operand_reads : (position : Position) (scope : List Seg) (context : Context) → AllReads (list_operand inner_term position scope context)
  unfolding list_operand
  list_operand_reads position scope context = then_reads _ _ (items_reads position scope context) (λ ts. give_reads _)

  super_name_reads : (scope : List Seg) (context : Context) → AllReads (super_name inner_term scope context)
  unfolding super_name
  super_name_reads scope context = then_reads _ _ peek_reads (λ b. if_all_reads (b == 0) _ _ (stop_reads _ tt) (if_all_reads (starts_name b) _ _ name_operand_reads (term_operand_reads _ scope context)))

  target_reads : (scope : List Seg) (context : Context) → AllReads (target inner_term scope context)
  unfolding target
  target_reads scope context = then_reads _ _ peek_reads (λ b. if_all_reads (b == 0) _ _ (skipping_reads _ (give_reads _)) (super_name_reads scope context))

  simple_name_reads : (scope : List Seg) (context : Context) → AllReads (simple_name inner_term scope context)
  unfolding simple_name
  simple_name_reads scope context = then_reads _ _ (look_reads _) (λ here. then_reads _ _ peek_reads (λ b. if_all_reads (b == 0 || starts_name b || is_slot b) _ _ (super_name_reads scope context) (stop_reads _ tt)))

  connection_reads : (scope : List Seg) (context : Context) → AllReads (connection inner_term scope context)
  unfolding connection
  connection_reads scope context = then_reads _ _ peek_reads (λ b. if_all_reads (starts_name b) _ _ name_operand_reads (if_all_reads (b == 0x11) _ _ (term_operand_reads _ scope context) (stop_reads _ tt)))

  connect_field_reads : (scope : List Seg) (context : Context) → AllReads (connect_field inner_term scope context)
  unfolding connect_field
  connect_field_reads scope context = then_reads _ _ byte_reads (λ code. then_reads _ _ (connection_reads scope context) (λ p. give_reads _))

  field_reads : (scope : List Seg) (context : Context) → AllReads (field inner_term scope context)
  unfolding field
  field_reads scope context =
      then_reads _ _ peek_reads (λ b. if_all_reads (b == 0) _ _ reserved_field_reads (if_all_reads (b == 1) _ _ access_field_reads (if_all_reads (b == 2) _ _ (connect_field_reads scope context) (if_all_reads (b == 3) _ _ extended_access_field_reads (named_field_reads scope context)))))

  fields_reads : (scope : List Seg) (context : Context) → AllReads (fields inner_term scope context)
  unfolding fields
  fields_reads scope context = direct_reads _ (λ s. (until_end_reads _ (field_reads scope context) (length s.rest)).reads s)

  fields_operand_reads : (scope : List Seg) (context : Context) → AllReads (fields_operand inner_term scope context)
  unfolding fields_operand
  fields_operand_reads scope context = then_reads _ _ (fields_reads scope context) (λ ts. give_reads _)

  operand_reads : (scope : List Seg) (context : Context) (start : ℕ) (k : OperandKind) (earlier : Earlier) → AllReads (operand inner_term scope context start k earlier)
  unfolding operand
  operand_reads scope context start kinds.Nothing earlier = give_reads _
  operand_reads scope context start kinds.NameString earlier = keeping_reads earlier _ name_operand_reads
  operand_reads scope context start kinds.ScopeName earlier = scope_name_reads scope earlier
  operand_reads scope context start kinds.AliasSource earlier = alias_source_reads scope earlier
  operand_reads scope context start kinds.AliasName earlier = declared_name_reads scope context start earlier.count earlier
  operand_reads scope context start kinds.DeclaredName earlier = declared_name_reads scope context start 0 earlier
  operand_reads scope context start kinds.MethodFlags earlier = method_flags_reads context earlier
  operand_reads scope context start kinds.ExternalName earlier = external_name_reads scope earlier
  operand_reads scope context start kinds.ObjectType earlier = object_type_reads earlier
  operand_reads scope context start kinds.ArgumentCount earlier = argument_count_reads context earlier
  operand_reads scope context start kinds.ByteData earlier = keeping_reads earlier _ (integer_operand_reads 1)
  operand_reads scope context start kinds.WordData earlier = keeping_reads earlier _ (integer_operand_reads 2)
  operand_reads scope context start kinds.DWordData earlier = keeping_reads earlier _ (integer_operand_reads 4)
  operand_reads scope context start kinds.QWordData earlier = keeping_reads earlier _ (integer_operand_reads 8)
  operand_reads scope context start kinds.AsciiCharList earlier = keeping_reads earlier _ text_operand_reads
  operand_reads scope context start kinds.TermArg earlier = keeping_reads earlier _ (term_operand_reads _ scope context)
  operand_reads scope context start kinds.DataObject earlier = keeping_reads earlier _ (term_operand_reads _ scope context)
  operand_reads scope context start kinds.SuperName earlier = keeping_reads earlier _ (super_name_reads scope context)
  operand_reads scope context start kinds.Target earlier = keeping_reads earlier _ (target_reads scope context)
  operand_reads scope context start kinds.SimpleName earlier = keeping_reads earlier _ (simple_name_reads scope context)
  operand_reads scope context start kinds.TermList earlier = keeping_reads earlier _ (list_operand_reads _ _ context)
  operand_reads scope context start kinds.LoopTermList earlier = keeping_reads earlier _ (list_operand_reads _ _ (in_loop context))
  operand_reads scope context start kinds.ByteList earlier = keeping_reads earlier _ bytes_operand_reads
  operand_reads scope context start kinds.PackageElementList earlier = keeping_reads earlier _ (list_operand_reads _ _ context)
  operand_reads scope context start kinds.FieldList earlier = keeping_reads earlier _ (fields_operand_reads scope context)

  operands_reads : (scope : List Seg) (context : Context) (start : ℕ) (ks : List OperandKind) (earlier : Earlier) → AllReads (operands inner_term scope context start ks earlier)
  unfolding operands
  operands_reads scope context start [] earlier = give_reads _
  operands_reads scope context start (k ∷ ks) earlier = if_all_reads (is_nothing k) _ _ (give_reads _) (then_reads _ _ (operand_reads scope context start k earlier) (λ x. then_reads _ _ (operands_reads scope context start ks x.1) (λ ps. give_reads _)))

  row_operands_reads : (scope : List Seg) (context : Context) (start : ℕ) (row : Row) → AllReads (row_operands inner_term scope context start row)
  row_operands_reads scope context start row = packed_reads row.2 _ (operands_reads scope context start _ _)

  plain_term_reads : (scope : List Seg) (context : Context) (start : ℕ) (row : Row) → AllReads (plain_term inner_term scope context start row)
  unfolding plain_term
  plain_term_reads scope context start row = then_reads _ _ (row_operands_reads scope context start row) (λ ps. give_reads _)

  else_term_reads : (scope : List Seg) (context : Context) → AllReads (else_term inner_term scope context)
  unfolding else_term
  else_term_reads scope context = then_reads _ _ byte_reads (λ code. then_reads _ _ (packed_reads true _ (list_operand_reads _ scope context)) (λ p. give_reads _))

  else_operand_reads : (scope : List Seg) (context : Context) → AllReads (else_operand inner_term scope context)
  unfolding else_operand
  else_operand_reads scope context = then_reads _ _ (else_term_reads scope context) (λ t. give_reads _)

  else_part_reads : (scope : List Seg) (context : Context) (start : ℕ) → AllReads (else_part inner_term scope context start)
  unfolding else_part
  else_part_reads scope context start = direct_reads _ (λ s. branch_reads (is_next 0xA1 s.rest) _ _ ((else_operand_reads scope (at_else context start s.at)).reads s) tt)

  if_term_reads : (scope : List Seg) (context : Context) (start : ℕ) (row : Row) → AllReads (if_term inner_term scope context start row)
  unfolding if_term
  if_term_reads scope context start row = then_reads _ _ (row_operands_reads scope context start row) (λ ps. then_reads _ _ (else_part_reads scope context start) (λ e. give_reads _))

  row_term_reads : (scope : List Seg) (context : Context) (start : ℕ) (row : Row) → AllReads (row_term inner_term scope context start row)
  unfolding row_term
  row_term_reads scope context start row = if_all_reads (is_if row.0) _ _ (if_term_reads scope context start row) (plain_term_reads scope context start row)

-- ---- opcodes

opcode_reads : AllReads opcode
unfolding opcode
opcode_reads = then_reads _ _ byte_reads (λ b. if_all_reads (b == 0x5B) _ _ (then_reads _ _ byte_reads (λ e. give_reads _)) (give_reads _))

admitted_row_reads : (position : Position) (context : Context) (start : ℕ) (o : Option Row) → AllReads (admitted_row position context start o)
admitted_row_reads position context start None = stop_reads _ tt
admitted_row_reads position context start (Some row) = if_all_reads (stands row.1 position context) _ _ (if_all_reads (context.body && is_module_level row.1) _ _ (stop_reads _ tt) (give_reads _)) (stop_reads _ tt)

row_at_reads : (position : Position) (context : Context) (start : ℕ) → AllReads (row_at position context start)
unfolding row_at
row_at_reads position context start = then_reads _ _ opcode_reads (λ n. admitted_row_reads position context start (row_of n))

-- ---- terms

abbrev BelowClean : Option Inner → Type 0
BelowClean None = Unit {0}
BelowClean (Some i) = InnerClean i

deeper_reads : (o : Option Inner) (item : ℕ) (go : Inner → Step Tree) → BelowClean o → ((i : Inner) → InnerClean i → AllReads (go i)) → AllReads (deeper o item go)
unfolding deeper
deeper_reads None item go h k = stop_reads _ tt
deeper_reads (Some i) item go h k = k i h

coded_term_reads : (o : Option Inner) → BelowClean o → (position : Position) (scope : List Seg) (context : Context) (start : ℕ) → AllReads (coded_term o position scope context start)
unfolding coded_term
coded_term_reads o h position scope context start =
    then_reads _ _ (row_at_reads position context start) (λ row. if_all_reads (costs_no_level row.1 position) _ _ (give_reads _) (deeper_reads o _ _ h (λ i fit. row_term_reads i fit scope context start row)))

element_name_reads : AllReads element_name
unfolding element_name
element_name_reads = then_reads _ _ name_string_reads (λ n. give_reads _)

module _ (counting : Counting) where
  argument_number_reads : (start : ℕ) (scope : List Seg) (n : Name) (path : List Seg) → AllReads (argument_number counting start scope n path)
  unfolding argument_number
  argument_number_reads start scope n path = direct_reads _ (λ s. tt)

  invocation_reads : (i : Inner) → InnerClean i → (scope : List Seg) (context : Context) (start : ℕ) → AllReads (invocation counting i scope context start)
  unfolding invocation
  invocation_reads i h scope context start =
      then_reads _ _ name_string_reads (λ n. then_reads _ _ (settle_reads _ (resolved_reads n scope)) (λ path. then_reads _ _ (argument_number_reads start scope n path) (λ count. then_reads _ _ (times_reads _ (h positions.TermArg scope context) count) (λ ts. give_reads _))))

  named_term_reads : (i : Inner) → InnerClean i → (position : Position) (scope : List Seg) (context : Context) (start : ℕ) → AllReads (named_term counting i position scope context start)
  named_term_reads i h positions.PackageElement scope context start = element_name_reads
  named_term_reads i h _ scope context start = invocation_reads i h scope context start

  named_reads : (o : Option Inner) → BelowClean o → (position : Position) (scope : List Seg) (context : Context) (start : ℕ) → AllReads (named counting o position scope context start)
  unfolding named
  named_reads o h position scope context start = if_all_reads (takes_name position) _ _ (deeper_reads o _ _ h (λ i fit. named_term_reads i fit position scope context start)) (stop_reads _ tt)

  term_in_reads : (o : Option Inner) → BelowClean o → InnerClean (term_in counting o)
  unfolding term_in
  term_in_reads o h position scope context = then_reads _ _ (look_reads _) (λ start. then_reads _ _ peek_reads (λ b. if_all_reads (starts_name b) _ _ (named_reads o h position scope _ start) (coded_term_reads o h position scope _ start)))

  below_reads : (levels : ℕ) → BelowClean (below counting levels)
  unfolding below
  below_reads zero = tt
  below_reads (suc levels) = term_in_reads (below counting levels) (below_reads levels)

  term_at_reads : (levels : ℕ) → InnerClean (term_at counting levels)
  unfolding term_at
  term_at_reads levels = term_in_reads (below counting levels) (below_reads levels)

-- ---- whole lists

reading_reads_of : (bs : List ℕ) (scope : List Seg) (body : Bool) (arities : List Arity) → Reads (term_list by_arities bs scope body arities).0
unfolding term_list
reading_reads_of bs scope body arities = (items_reads (term_at by_arities max_depth) (term_at_reads by_arities max_depth) positions.ListItem scope (outermost body)).reads (beginning bs arities)

pub reading_reads : (bs : List ℕ) (scope : List Seg) (body : Bool) (arities : List Arity) → Reads (reading bs scope body arities)
reading_reads bs scope body arities = reading_reads_of bs scope body arities

with_arities_reads : (x : Outcome (List Tree)) (s : State) → Reads x → Reads (with_arities (x, s))
with_arities_reads (Ok ts) s c = tt
with_arities_reads (Err e) s c = c

pub table_reading_reads : (bs : List ℕ) (arities : List Arity) → Reads (table_reading bs arities)
table_reading_reads bs arities = with_arities_reads (term_list by_arities bs [] false arities).0 (term_list by_arities bs [] false arities).1 (reading_reads_of bs [] false arities)

-- ---- whole lists within the levels that a setting allows

pub list_within_reads : (levels : ℕ) (bs : List ℕ) (scope : List Seg) (body : Bool) (arities : List Arity) → Reads (term_list_within levels by_arities bs scope body arities).0
unfolding term_list_within
list_within_reads levels bs scope body arities = (items_reads (term_at by_arities (levels_allowed levels)) (term_at_reads by_arities (levels_allowed levels)) positions.ListItem scope (outermost body)).reads (beginning bs arities)

pub reading_within_reads : (levels : ℕ) (bs : List ℕ) (scope : List Seg) (body : Bool) (arities : List Arity) → ReadsWithin (nat_lt levels max_depth) (reading_within levels bs scope body arities)
reading_within_reads levels bs scope body arities = within_reads levels _ (list_within_reads levels bs scope body arities)

pub table_reading_within_reads : (levels : ℕ) (bs : List ℕ) (arities : List Arity) → ReadsWithin (nat_lt levels max_depth) (table_reading_within levels bs arities)
table_reading_within_reads levels bs arities =
    let list = term_list_within levels by_arities bs [] false arities in
    within_reads levels (with_arities list) (with_arities_reads list.0 list.1 (list_within_reads levels bs [] false arities))
