-- Operands with terms, rows of operands, and an Else: the walks go as the steps do where those of the terms inside do.
use Rattle.std.proofs.Common.{◌≡◌, ℕ, List, [], ◌∷◌, ◌++◌, length, Bool, true, false, Some, Ok, refl}
use Rattle.std.specs.Prelude.{◌==◌, ◌||◌, if◌then◌else◌}
use Rattle.ar_space.specs.declared.refusal.Refusal.TheVariants as refusals
use Rattle.ar_space.specs.declared.refusal.NameFault.TheVariants.{BadName}
use Rattle.ar_space.specs.declared.refusal.TermFault.TheVariants.{BadOpcode}
use Rattle.ar_space.specs.Change.{give, ◌>>=◌}
use Rattle.aml_path.specs.declared.segment.Seg.{Seg}
use Rattle.aml_grammar.specs.declared.opcode.Opcode.TheVariants as opcodes
use Rattle.aml_grammar.specs.declared.opcode.TermCode.TheVariants as codes
use Rattle.aml_grammar.specs.declared.kinds.OperandKind.{OperandKind}
use Rattle.aml_grammar.specs.declared.kinds.OperandKind.TheVariants as kinds
use Rattle.aml_grammar.specs.declared.kinds.Row.{Row}
use Rattle.aml_grammar.specs.declared.context.Position.{Position}
use Rattle.aml_grammar.specs.declared.context.Position.TheVariants as positions
use Rattle.aml_grammar.specs.declared.context.Context.{Context}
use Rattle.aml_grammar.specs.declared.context.Earlier.{Earlier}
use Rattle.aml_grammar.specs.State.{State, bad_name, byte, is_next}
use Rattle.aml_grammar.specs.Names.{starts_name}
use Rattle.aml_grammar.specs.Operands.{name_operand, reserved_field, access_field, extended_access_field, named_field}
use Rattle.aml_grammar.specs.Tree.{term, null, name, inner}
use Rattle.aml_grammar.specs.Shape.{parts_of}
use Rattle.aml_grammar.specs.Grammar.{Inner, is_slot, is_if, is_nothing, kinds_of, at_else, in_loop, scope_of, nothing_earlier, items, term_operand, list_operand, super_name_at, super_name, target, simple_name, connection, connect_field, field, fields, fields_operand, operand, operands, row_operands, plain_term, else_term, else_operand, else_part, if_term, row_term}
use Rattle.aml_marks.specs.Marked.{Below, after, gives, first, a_byte, a_name, to_part, list_part, all_items, name_or_term, a_super_name, a_target, a_connect_field, a_field, fields_left, a_reserved_field, an_access_field, an_extended_access_field, a_named_field, an_operand, all_operands, of_row, an_else, else_of, maybe_else, with_else, with_row}
use Rattle.aml_marks.proofs.Follows.{Follows, by_then, follows_then, follows_give, follows_stop, follows_as, steps_as, follows_only_if, follows_map, follows_part, follows_look, follows_peek, follows_until}
use Rattle.aml_marks.proofs.Moves.{follows_takes}
use Rattle.aml_marks.proofs.Leaves.{takes_byte, packed_if}
use Rattle.aml_marks.proofs.Operands.{ReadBy, by_keeping, by_nothing, follows_name, by_scope, by_source, by_external, by_declared, follows_integer, by_flags, by_type, by_count, follows_text, follows_bytes, follows_reserved, follows_access, follows_extended, follows_named_field}

abbrev pub is_element : Position → Bool
is_element positions.PackageElement = true
is_element _ = false

-- the walk goes as the steps do, in every position, scope and context
abbrev pub Inners : (ℕ → ℕ) → Inner → Below → Type 0
Inners count i b = (position : Position) (scope : List Seg) (context : Context) (s : State) → Follows count (i position scope context) (b (is_element position)) s

module _ (count : ℕ → ℕ) (i : Inner) (b : Below) (h : Inners count i b) where
  pub follows_items : (position : Position) (scope : List Seg) (context : Context) (s : State) → Follows count (items i position scope context) (all_items b (is_element position)) s
  unfolding items all_items
  follows_items position scope context s = record { is = (follows_until (h position scope context) (length s.rest) s).is }

  follows_list : (position : Position) (scope : List Seg) (context : Context) (s : State) → Follows count (list_operand i position scope context) (to_part list_part (all_items b (is_element position))) s
  unfolding list_operand
  follows_list position scope context s = follows_part list_part (follows_items position scope context s)

  follows_inner : (position : Position) (scope : List Seg) (context : Context) (s : State) → Follows count (term_operand i position scope context) (to_part inner (b (is_element position))) s
  unfolding term_operand
  follows_inner position scope context s = follows_part inner (h position scope context s)

  -- ---- what is read or written

  name_if : (scope : List Seg) (context : Context) (s : State) (starts : Bool) → Follows count (if starts then name_operand else term_operand i positions.SuperName scope context) (if starts then to_part name a_name else to_part inner (b false)) s
  name_if scope context s true = follows_name s
  name_if scope context s false = follows_inner positions.SuperName scope context s

  super_from : (scope : List Seg) (context : Context) (s : State) (c : ℕ) → Follows count (super_name_at i scope context c) (name_or_term b c) s
  super_from scope context s c = follows_only_if (c == 0) (λ zero. follows_stop (refusals.Name BadName)) (λ some. name_if scope context s (starts_name c))

  follows_super : (scope : List Seg) (context : Context) (s : State) → Follows count (super_name i scope context) (a_super_name b) s
  unfolding super_name a_super_name
  follows_super scope context s = follows_peek (λ c is. follows_as (rw is refl) (super_from scope context s c))

  target_if : (scope : List Seg) (context : Context) (s : State) (c : ℕ) (zero : Bool) → first s.rest ≡ c → Follows count (if zero then (byte >>= (λ skipped. give null)) else super_name i scope context) (if zero then to_part (λ _. null) a_byte else name_or_term b c) s
  unfolding a_super_name
  target_if scope context s c true is = follows_part (λ _. null) (follows_takes (takes_byte s))
  target_if scope context s c false is = follows_as (rw is refl) (follows_super scope context s)

  follows_target : (scope : List Seg) (context : Context) (s : State) → Follows count (target i scope context) (a_target b) s
  unfolding target a_target
  follows_target scope context s = follows_peek (λ c is. follows_as (rw is refl) (target_if scope context s c (c == 0) is))

  follows_simple : (scope : List Seg) (context : Context) (s : State) → Follows count (simple_name i scope context) (a_super_name b) s
  unfolding simple_name
  follows_simple scope context s = follows_look (λ (s : State). s.at) _ (follows_peek (λ c is. follows_only_if (c == 0 || starts_name c || is_slot c) (λ may. follows_super scope context s) (λ not. follows_stop (refusals.Term BadOpcode s.at))))

  -- ---- fields

  buffer_if : (scope : List Seg) (context : Context) (s : State) (buffer : Bool) → Follows count (if buffer then term_operand i positions.DataObject scope context else bad_name) (to_part inner (b false)) s
  buffer_if scope context s true = follows_inner positions.DataObject scope context s
  buffer_if scope context s false = follows_stop (refusals.Name BadName)

  connection_if : (scope : List Seg) (context : Context) (s : State) (c : ℕ) (starts : Bool) → Follows count (if starts then name_operand else (if c == 0x11 then term_operand i positions.DataObject scope context else bad_name)) (if starts then to_part name a_name else to_part inner (b false)) s
  connection_if scope context s c true = follows_name s
  connection_if scope context s c false = buffer_if scope context s (c == 0x11)

  follows_connection : (scope : List Seg) (context : Context) (s : State) → Follows count (connection i scope context) (a_super_name b) s
  unfolding connection a_super_name
  follows_connection scope context s = follows_peek (λ c is. follows_as (rw is refl) (connection_if scope context s c (starts_name c)))

  follows_connect : (scope : List Seg) (context : Context) (s : State) → Follows count (connect_field i scope context) (a_connect_field b) s
  unfolding connect_field a_connect_field
  follows_connect scope context s = follows_then (follows_takes (takes_byte s)) (λ code s1 g. follows_map (λ p. term codes.ConnectField (parts_of (p ∷ []))) (follows_connection scope context s1))

  field_if : (scope : List Seg) (context : Context) (s : State) (zero one two three : Bool) → Follows count (if zero then reserved_field else (if one then access_field else (if two then connect_field i scope context else (if three then extended_access_field else named_field scope context)))) (if zero then a_reserved_field else (if one then an_access_field else (if two then a_connect_field b else (if three then an_extended_access_field else a_named_field)))) s
  field_if scope context s true one two three = follows_reserved s
  field_if scope context s false true two three = follows_access s
  field_if scope context s false false true three = follows_connect scope context s
  field_if scope context s false false false true = follows_extended s
  field_if scope context s false false false false = follows_named_field scope context s

  follows_field : (scope : List Seg) (context : Context) (s : State) → Follows count (field i scope context) (a_field b) s
  unfolding field a_field
  follows_field scope context s = follows_peek (λ c is. follows_as (rw is refl) (field_if scope context s (c == 0) (c == 1) (c == 2) (c == 3)))

  follows_fields : (scope : List Seg) (context : Context) (s : State) → Follows count (fields_operand i scope context) (to_part list_part (fields_left b)) s
  unfolding fields_operand fields fields_left
  follows_fields scope context s = follows_part list_part (record { is = (follows_until (follows_field scope context) (length s.rest) s).is })

  -- ---- operands

  by_operand : (scope : List Seg) (context : Context) (start : ℕ) (k : OperandKind) (earlier : Earlier) (s : State) → ReadBy count (operand i scope context start k earlier) (an_operand b k) s
  unfolding operand an_operand
  by_operand scope context start kinds.Nothing earlier s = by_nothing earlier s
  by_operand scope context start kinds.NameString earlier s = by_keeping earlier (follows_name s)
  by_operand scope context start kinds.ScopeName earlier s = by_scope scope earlier s
  by_operand scope context start kinds.AliasSource earlier s = by_source scope earlier s
  by_operand scope context start kinds.AliasName earlier s = by_declared scope context start earlier.count earlier s
  by_operand scope context start kinds.DeclaredName earlier s = by_declared scope context start 0 earlier s
  by_operand scope context start kinds.MethodFlags earlier s = by_flags context earlier s
  by_operand scope context start kinds.ExternalName earlier s = by_external scope earlier s
  by_operand scope context start kinds.ObjectType earlier s = by_type earlier s
  by_operand scope context start kinds.ArgumentCount earlier s = by_count context earlier s
  by_operand scope context start kinds.ByteData earlier s = by_keeping earlier (follows_integer 1 s)
  by_operand scope context start kinds.WordData earlier s = by_keeping earlier (follows_integer 2 s)
  by_operand scope context start kinds.DWordData earlier s = by_keeping earlier (follows_integer 4 s)
  by_operand scope context start kinds.QWordData earlier s = by_keeping earlier (follows_integer 8 s)
  by_operand scope context start kinds.AsciiCharList earlier s = by_keeping earlier (follows_text s)
  by_operand scope context start kinds.TermArg earlier s = by_keeping earlier (follows_inner positions.TermArg scope context s)
  by_operand scope context start kinds.DataObject earlier s = by_keeping earlier (follows_inner positions.DataObject scope context s)
  by_operand scope context start kinds.SuperName earlier s = by_keeping earlier (follows_super scope context s)
  by_operand scope context start kinds.Target earlier s = by_keeping earlier (follows_target scope context s)
  by_operand scope context start kinds.SimpleName earlier s = by_keeping earlier (follows_simple scope context s)
  by_operand scope context start kinds.TermList earlier s = by_keeping earlier (follows_list positions.ListItem (scope_of scope earlier.path) context s)
  by_operand scope context start kinds.LoopTermList earlier s = by_keeping earlier (follows_list positions.ListItem (scope_of scope earlier.path) (in_loop context) s)
  by_operand scope context start kinds.ByteList earlier s = by_keeping earlier (follows_bytes s)
  by_operand scope context start kinds.PackageElementList earlier s = by_keeping earlier (follows_list positions.PackageElement (scope_of scope earlier.path) context s)
  by_operand scope context start kinds.FieldList earlier s = by_keeping earlier (follows_fields scope context s)

  operands_if : (scope : List Seg) (context : Context) (start : ℕ) (k : OperandKind) (ks : List OperandKind) (earlier : Earlier) (s : State) (test : Bool) → ((earlier : Earlier) (s : State) → Follows count (operands i scope context start ks earlier) (all_operands b ks) s)
      → Follows count (if test then give [] else (operand i scope context start k earlier >>= (λ x. operands i scope context start ks x.1 >>= (λ ps. give (x.0 ∷ ps))))) (if test then gives [] else after (an_operand b k) (λ x. after (all_operands b ks) (λ xs. gives (x ∷ xs)))) s
  operands_if scope context start k ks earlier s true rest = follows_give []
  operands_if scope context start k ks earlier s false rest = by_then (λ x. after (all_operands b ks) (λ xs. gives (x ∷ xs))) (by_operand scope context start k earlier s) (λ x s1 g. follows_map (λ ps. x.0 ∷ ps) (rest x.1 s1))

  follows_operands : (scope : List Seg) (context : Context) (start : ℕ) (ks : List OperandKind) (earlier : Earlier) (s : State) → Follows count (operands i scope context start ks earlier) (all_operands b ks) s
  unfolding operands all_operands
  follows_operands scope context start [] earlier s = follows_give []
  follows_operands scope context start (k ∷ ks) earlier s = operands_if scope context start k ks earlier s (is_nothing k) (follows_operands scope context start ks)

  -- ---- rows, If and Else

  follows_row : (scope : List Seg) (context : Context) (start : ℕ) (row : Row) (s : State) → Follows count (row_operands i scope context start row) (of_row b row) s
  unfolding of_row
  follows_row scope context start row s = packed_if row.2 s (follows_operands scope context start (kinds_of row.3) nothing_earlier)

  follows_else_term : (scope : List Seg) (context : Context) (s : State) → Follows count (else_term i scope context) (an_else b) s
  unfolding else_term an_else
  follows_else_term scope context s = follows_then (follows_takes (takes_byte s)) (λ c s1 g. follows_map (λ p. term (codes.Opcode opcodes.Else) (parts_of (p ∷ []))) (packed_if true s1 (follows_list positions.ListItem scope context)))

  else_if : (scope : List Seg) (context : Context) (start : ℕ) (s : State) (test : Bool) → Follows count (λ s. if test then else_operand i scope (at_else context start s.at) s else (Ok null, s)) (else_of b test) s
  unfolding else_operand give
  else_if scope context start s true = steps_as refl (follows_part inner (follows_else_term scope (at_else context start s.at) s))
  else_if scope context start s false = steps_as refl (follows_give null)

  follows_else : (scope : List Seg) (context : Context) (start : ℕ) (s : State) → Follows count (else_part i scope context start) (maybe_else b) s
  unfolding else_part maybe_else
  follows_else scope context start s = steps_as refl (follows_as refl (else_if scope context start s (is_next 0xA1 s.rest)))

  row_if : (scope : List Seg) (context : Context) (start : ℕ) (row : Row) (s : State) (test : Bool) → Follows count (if test then if_term i scope context start row else plain_term i scope context start row) (after (of_row b row) (λ ps. if test then with_else b row.0 ps else gives (term (codes.Opcode row.0) (parts_of ps)))) s
  unfolding if_term plain_term
  row_if scope context start row s true = follows_then (follows_row scope context start row s) (λ ps s1 g. follows_map (λ e. term (codes.Opcode row.0) (parts_of (ps ++ e ∷ []))) (follows_else scope context start s1))
  row_if scope context start row s false = follows_map (λ ps. term (codes.Opcode row.0) (parts_of ps)) (follows_row scope context start row s)

  pub follows_row_term : (scope : List Seg) (context : Context) (start : ℕ) (row : Row) (s : State) → Follows count (row_term i scope context start row) (with_row b (Some row)) s
  unfolding row_term with_row
  follows_row_term scope context start row s = row_if scope context start row s (is_if row.0)
