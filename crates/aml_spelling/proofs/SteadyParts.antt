-- Operands that hold terms are steady, where the terms are.
use Rattle.std.proofs.Common.{◌≡◌, ℕ, List, [], ◌∷◌, length, Bool, true, false, refl, ◌∙◌, ap, arith}
use Rattle.std.specs.Prelude.{◌==◌, ◌||◌, if◌then◌else◌}
use Rattle.ar_space.specs.declared.refusal.Refusal.TheVariants as refusals
use Rattle.ar_space.specs.declared.refusal.TermFault.TheVariants.{BadOpcode}
use Rattle.ar_space.specs.Change.{give, stop}
use Rattle.aml_path.specs.declared.segment.Seg.{Seg}
use Rattle.aml_grammar.specs.declared.kinds.OperandKind.{OperandKind}
use Rattle.aml_grammar.specs.declared.kinds.OperandKind.TheVariants as kinds
use Rattle.aml_grammar.specs.declared.kinds.Row.{Row}
use Rattle.aml_grammar.specs.declared.context.Position.{Position}
use Rattle.aml_grammar.specs.declared.context.Position.TheVariants as positions
use Rattle.aml_grammar.specs.declared.context.Context.{Context}
use Rattle.aml_grammar.specs.declared.context.Earlier.{Earlier}
use Rattle.aml_grammar.specs.Names.{starts_name}
use Rattle.aml_grammar.specs.State.{State, Step, is_next, until_end}
use Rattle.aml_grammar.specs.Tree.{Part, null, inner}
use Rattle.aml_grammar.specs.Grammar.{Inner, is_slot, is_nothing, is_if, kinds_of, scope_of, in_loop, at_else, nothing_earlier, keeping, items, term_operand, list_operand, super_name_at, super_name, target, simple_name, connection, connect_field, field, fields, fields_operand, operand, operands, row_operands, plain_term, else_term, else_operand, else_part, if_term, row_term}
use Rattle.aml_spelling.proofs.Steady.{Steady, apart_at, apart_length, steady_then, steady_as, steady_give, steady_map, steady_stop, steady_bad, steady_if, steady_from, steady_more, steady_look}
use Rattle.aml_spelling.proofs.SteadyBytes.{ahead_one, steady_byte, steady_peek, next_same}
use Rattle.aml_spelling.proofs.SteadyPackages.{steady_packed, steady_until}
use Rattle.aml_spelling.proofs.SteadyNames.{steady_skipping}
use Rattle.aml_spelling.proofs.SteadyOperands.{steady_name_operand, steady_scope_name, steady_alias_source, steady_external_name, steady_declared_name, steady_integer_operand, steady_method_flags, steady_object_type, steady_argument_count, steady_text_operand, steady_bytes_operand, steady_reserved_field, steady_access_field, steady_extended_access_field, steady_named_field}

-- terms one level below are steady
abbrev pub TermSteady : Inner → Type 0
TermSteady inner_term = (position : Position) (scope : List Seg) (context : Context) (s : State) → Steady true true (inner_term position scope context) s

-- an opcode that is refused by its first byte
pub steady_bad_opcode : {A : Type 0} {w : Bool} (s : State) → Steady {A = A} true w (stop (refusals.Term BadOpcode s.at)) s
steady_bad_opcode s = steady_stop (refusals.Term BadOpcode s.at) (omega (arith, ahead_one s.rest)) (omega arith, omega arith)

module _ (inner_term : Inner) (h : TermSteady inner_term) where
  pub steady_items : (position : Position) (scope : List Seg) (context : Context) (s : State) → Steady true true (items inner_term position scope context) s
  unfolding items
  steady_items position scope context s = steady_as {n = until_end (inner_term position scope context) (length s.rest)} refl
      (λ p t apart far on. ap (λ n. until_end (inner_term position scope context) n t) (apart_length apart)) (steady_until (inner_term position scope context) (h position scope context) (length s.rest) s)

  steady_term : (position : Position) (scope : List Seg) (context : Context) (s : State) → Steady true true (term_operand inner_term position scope context) s
  unfolding term_operand
  steady_term position scope context s = steady_map inner (h position scope context s)

  steady_list : (position : Position) (scope : List Seg) (context : Context) (s : State) → Steady true true (list_operand inner_term position scope context) s
  unfolding list_operand
  steady_list position scope context s = steady_map _ (steady_items position scope context s)

  steady_super_at : (scope : List Seg) (context : Context) (b : ℕ) (s : State) → Steady true true (super_name_at inner_term scope context b) s
  steady_super_at scope context b s = steady_if (b == 0) (λ _. steady_bad s) (λ _. steady_if (starts_name b) (λ _. steady_more (steady_name_operand s)) (λ _. steady_term positions.SuperName scope context s))

  steady_super : (scope : List Seg) (context : Context) (s : State) → Steady true true (super_name inner_term scope context) s
  unfolding super_name
  steady_super scope context s = steady_peek (λ b bs is. steady_super_at scope context b s)

  steady_target : (scope : List Seg) (context : Context) (s : State) → Steady true true (target inner_term scope context) s
  unfolding target
  steady_target scope context s = steady_peek (λ b bs is. steady_if (b == 0) (λ _. steady_more (steady_skipping s (λ s1. steady_give null s1))) (λ _. steady_super scope context s))

  steady_simple : (scope : List Seg) (context : Context) (s : State) → Steady true true (simple_name inner_term scope context) s
  unfolding simple_name
  steady_simple scope context s = steady_look (λ s. s.at) _ (λ ys. refl) (steady_peek (λ b bs is. steady_if (b == 0 || starts_name b || is_slot b) (λ _. steady_super scope context s) (λ _. steady_bad_opcode s)))

  steady_connection : (scope : List Seg) (context : Context) (s : State) → Steady true true (connection inner_term scope context) s
  unfolding connection
  steady_connection scope context s = steady_peek (λ b bs is. steady_if (starts_name b) (λ _. steady_more (steady_name_operand s)) (λ _. steady_if (b == 0x11) (λ _. steady_term positions.DataObject scope context s) (λ _. steady_bad s)))

  steady_connect_field : (scope : List Seg) (context : Context) (s : State) → Steady true true (connect_field inner_term scope context) s
  unfolding connect_field
  steady_connect_field scope context s = steady_then (steady_byte s) (λ code s1. steady_map _ (steady_from false (steady_connection scope context s1)))

  steady_field : (scope : List Seg) (context : Context) (s : State) → Steady true true (field inner_term scope context) s
  unfolding field
  steady_field scope context s = steady_peek (λ b bs is. steady_if (b == 0) (λ _. steady_more (steady_reserved_field s)) (λ _. steady_if (b == 1) (λ _. steady_more (steady_access_field s)) (λ _. steady_if (b == 2) (λ _. steady_connect_field scope context s)
      (λ _. steady_if (b == 3) (λ _. steady_more (steady_extended_access_field s)) (λ _. steady_more (steady_named_field scope context s))))))

  steady_fields : (scope : List Seg) (context : Context) (s : State) → Steady true true (fields inner_term scope context) s
  unfolding fields
  steady_fields scope context s = steady_as {n = until_end (field inner_term scope context) (length s.rest)} refl
      (λ p t apart far on. ap (λ n. until_end (field inner_term scope context) n t) (apart_length apart)) (steady_until (field inner_term scope context) (steady_field scope context) (length s.rest) s)

  steady_field_list : (scope : List Seg) (context : Context) (s : State) → Steady true true (fields_operand inner_term scope context) s
  unfolding fields_operand
  steady_field_list scope context s = steady_map _ (steady_fields scope context s)

  -- ---- operands

  steady_keeping : (earlier : Earlier) {m : Step Part} {s : State} → Steady true true m s → Steady true true (keeping earlier m) s
  steady_keeping earlier i = steady_map (λ p. (p, earlier)) i

  steady_operand : (scope : List Seg) (context : Context) (start : ℕ) (k : OperandKind) (earlier : Earlier) (s : State) → Steady true true (operand inner_term scope context start k earlier) s
  unfolding operand
  steady_operand scope context start kinds.Nothing earlier s = steady_give (null, earlier) s
  steady_operand scope context start kinds.NameString earlier s = steady_keeping earlier (steady_more (steady_name_operand s))
  steady_operand scope context start kinds.ScopeName earlier s = steady_more (steady_scope_name scope earlier s)
  steady_operand scope context start kinds.AliasSource earlier s = steady_more (steady_alias_source scope earlier s)
  steady_operand scope context start kinds.AliasName earlier s = steady_more (steady_declared_name scope context start earlier.count earlier s)
  steady_operand scope context start kinds.DeclaredName earlier s = steady_more (steady_declared_name scope context start 0 earlier s)
  steady_operand scope context start kinds.MethodFlags earlier s = steady_more (steady_method_flags context earlier s)
  steady_operand scope context start kinds.ExternalName earlier s = steady_more (steady_external_name scope earlier s)
  steady_operand scope context start kinds.ObjectType earlier s = steady_more (steady_object_type earlier s)
  steady_operand scope context start kinds.ArgumentCount earlier s = steady_more (steady_argument_count context earlier s)
  steady_operand scope context start kinds.ByteData earlier s = steady_keeping earlier (steady_more (steady_integer_operand 1 (omega arith) s))
  steady_operand scope context start kinds.WordData earlier s = steady_keeping earlier (steady_more (steady_integer_operand 2 (omega arith) s))
  steady_operand scope context start kinds.DWordData earlier s = steady_keeping earlier (steady_more (steady_integer_operand 4 (omega arith) s))
  steady_operand scope context start kinds.QWordData earlier s = steady_keeping earlier (steady_more (steady_integer_operand 8 (omega arith) s))
  steady_operand scope context start kinds.AsciiCharList earlier s = steady_keeping earlier (steady_more (steady_text_operand s))
  steady_operand scope context start kinds.TermArg earlier s = steady_keeping earlier (steady_term positions.TermArg scope context s)
  steady_operand scope context start kinds.DataObject earlier s = steady_keeping earlier (steady_term positions.DataObject scope context s)
  steady_operand scope context start kinds.SuperName earlier s = steady_keeping earlier (steady_super scope context s)
  steady_operand scope context start kinds.Target earlier s = steady_keeping earlier (steady_target scope context s)
  steady_operand scope context start kinds.SimpleName earlier s = steady_keeping earlier (steady_simple scope context s)
  steady_operand scope context start kinds.TermList earlier s = steady_keeping earlier (steady_list positions.ListItem (scope_of scope earlier.path) context s)
  steady_operand scope context start kinds.LoopTermList earlier s = steady_keeping earlier (steady_list positions.ListItem (scope_of scope earlier.path) (in_loop context) s)
  steady_operand scope context start kinds.ByteList earlier s = steady_keeping earlier (steady_more (steady_bytes_operand s))
  steady_operand scope context start kinds.PackageElementList earlier s = steady_keeping earlier (steady_list positions.PackageElement (scope_of scope earlier.path) context s)
  steady_operand scope context start kinds.FieldList earlier s = steady_keeping earlier (steady_field_list scope context s)

  steady_operands : (scope : List Seg) (context : Context) (start : ℕ) (ks : List OperandKind) (earlier : Earlier) (s : State) → Steady true true (operands inner_term scope context start ks earlier) s
  unfolding operands
  steady_operands scope context start [] earlier s = steady_give [] s
  steady_operands scope context start (k ∷ ks) earlier s = steady_if (is_nothing k) (λ _. steady_give [] s) (λ _. steady_then (steady_operand scope context start k earlier s) (λ x s1. steady_map (λ ps. x.0 ∷ ps) (steady_operands scope context start ks x.1 s1)))

  -- ---- rows

  steady_row_operands : (scope : List Seg) (context : Context) (start : ℕ) (row : Row) (s : State) → Steady true true (row_operands inner_term scope context start row) s
  steady_row_operands scope context start row s = steady_packed row.2 _ (steady_operands scope context start (kinds_of row.3) nothing_earlier) s

  steady_else : (scope : List Seg) (context : Context) (s : State) → Steady true true (else_term inner_term scope context) s
  unfolding else_term
  steady_else scope context s = steady_then (steady_byte s) (λ code s1. steady_map _ (steady_from false (steady_packed true _ (steady_list positions.ListItem scope context) s1)))

  steady_else_operand : (scope : List Seg) (context : Context) (s : State) → Steady true true (else_operand inner_term scope context) s
  unfolding else_operand
  steady_else_operand scope context s = steady_map inner (steady_else scope context s)

  else_if : List Seg → Context → Bool → Step Part
  else_if scope context next = if next then else_operand inner_term scope context else give null

  else_is : (scope : List Seg) (context : Context) (start : ℕ) (s : State) (next : Bool) → is_next 0xA1 s.rest ≡ next → else_part inner_term scope context start s ≡ else_if scope (at_else context start s.at) next s
  unfolding else_part else_if give
  else_is scope context start s true is = rw is refl
  else_is scope context start s false is = rw is refl

  steady_else_if : (scope : List Seg) (context : Context) (next : Bool) (s : State) → Steady true true (else_if scope context next) s
  unfolding else_if
  steady_else_if scope context next s = steady_if next (λ _. steady_else_operand scope context s) (λ _. steady_give null s)

  steady_else_part : (scope : List Seg) (context : Context) (start : ℕ) (s : State) → Steady true true (else_part inner_term scope context start) s
  steady_else_part scope context start s = steady_as {n = else_if scope (at_else context start s.at) (is_next 0xA1 s.rest)} (else_is scope context start s (is_next 0xA1 s.rest) refl)
      (λ p t apart far on. else_is scope context start t (is_next 0xA1 s.rest) (next_same apart 0xA1 on) ∙ ap (λ n. else_if scope (at_else context start n) (is_next 0xA1 s.rest) t) (apart_at apart))
      (steady_else_if scope (at_else context start s.at) (is_next 0xA1 s.rest) s)

  steady_plain : (scope : List Seg) (context : Context) (start : ℕ) (row : Row) (s : State) → Steady true true (plain_term inner_term scope context start row) s
  unfolding plain_term
  steady_plain scope context start row s = steady_map _ (steady_row_operands scope context start row s)

  steady_if_term : (scope : List Seg) (context : Context) (start : ℕ) (row : Row) (s : State) → Steady true true (if_term inner_term scope context start row) s
  unfolding if_term
  steady_if_term scope context start row s = steady_then (steady_row_operands scope context start row s) (λ ps s1. steady_map _ (steady_else_part scope context start s1))

  pub steady_row_term : (scope : List Seg) (context : Context) (start : ℕ) (row : Row) (s : State) → Steady true true (row_term inner_term scope context start row) s
  unfolding row_term
  steady_row_term scope context start row s = steady_if (is_if row.0) (λ _. steady_if_term scope context start row s) (λ _. steady_plain scope context start row s)
