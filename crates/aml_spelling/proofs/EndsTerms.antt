-- What is left ends where it ended, whatever operand or term is read.
use Rattle.std.proofs.Common.{◌≡◌, ℕ, ◌+◌, ◌%◌, List, [], ◌∷◌, ◌++◌, length, Bool, true, false, Option, Some, None, Ok, refl, sym, ap}
use Rattle.std.specs.Prelude.{◌==◌, ◌||◌, if◌then◌else◌}
use Rattle.ar_space.specs.declared.refusal.Refusal.TheVariants as refusals
use Rattle.ar_space.specs.declared.refusal.NameFault.TheVariants.{BadName}
use Rattle.ar_space.specs.declared.refusal.TermFault.TheVariants.{BadOpcode}
use Rattle.ar_space.specs.Change.{give}
use Rattle.aml_path.specs.declared.segment.Seg.{Seg}
use Rattle.aml_path.specs.Paths.{resolved}
use Rattle.aml_grammar.specs.declared.kinds.OperandKind.{OperandKind}
use Rattle.aml_grammar.specs.declared.kinds.OperandKind.TheVariants as kinds
use Rattle.aml_grammar.specs.declared.kinds.Row.{Row}
use Rattle.aml_grammar.specs.declared.context.Position.{Position}
use Rattle.aml_grammar.specs.declared.context.Position.TheVariants as positions
use Rattle.aml_grammar.specs.declared.context.Context.{Context}
use Rattle.aml_grammar.specs.declared.context.Earlier.{Earlier}
use Rattle.aml_grammar.specs.DeclaredNames.{declared_path}
use Rattle.aml_grammar.specs.Names.{starts_name}
use Rattle.aml_grammar.specs.State.{State, adding, until_end, is_next}
use Rattle.aml_grammar.specs.Tree.{null, name, number, bytes, inner}
use Rattle.aml_grammar.specs.Operands.{declare, declare_earlier, name_operand, scope_name, alias_source, external_name, declared_name, integer_operand, method_flags, object_type, argument_count, text_operand, bytes_operand, reserved_field, access_field, extended_access_field, named_field}
use Rattle.aml_grammar.specs.Grammar.{Inner, is_slot, is_nothing, is_if, kinds_of, scope_of, in_loop, at_else, nothing_earlier, items, term_operand, list_operand, super_name, target, simple_name, connection, connect_field, field, fields, fields_operand, operand, operands, row_operands, plain_term, else_term, else_operand, else_part, if_term, row_term}
use Rattle.aml_scan.proofs.Takes.{same_state}
use Rattle.aml_spelling.proofs.Ends.{Ends, ends_then, ends_kept, ends_give, ends_map, ends_stop, ends_look, ends_settle, ends_if, ends_as, ends_byte, ends_peek, ends_all, ends_integer, ends_bit_count, ends_text, ends_packed, ends_until, ends_segment, ends_name}

-- ---- operands without terms

declared_ends : (c : Bool) (path : List Seg) (n : ℕ) (external : Bool) (s s2 : State) → (if c then s else adding path n external s) ≡ s2 → s2.at + length s2.rest ≡ s.at + length s.rest
declared_ends true path n external s s2 e = ends_kept e
declared_ends false path n external s s2 e = ap (λ (t : State). t.at + length t.rest) (sym e)

pub ends_declare : (context : Context) (path : List Seg) (n : ℕ) (external : Bool) (s : State) → Ends (declare context path n external) s
ends_declare context path n external s = record { is = λ u s2 e. declared_ends context.body path n external s s2 (same_state e) }

pub ends_declare_earlier : (context : Context) (path : Option (List Seg)) (n : ℕ) (external : Bool) (s : State) → Ends (declare_earlier context path n external) s
ends_declare_earlier context None n external s = ends_give tt
ends_declare_earlier context (Some path) n external s = ends_declare context path n external s

ends_name_operand : (s : State) → Ends name_operand s
unfolding name_operand
ends_name_operand s = ends_map name (ends_name s)

ends_scope_name : (scope : List Seg) (earlier : Earlier) (s : State) → Ends (scope_name scope earlier) s
unfolding scope_name
ends_scope_name scope earlier s = ends_then (ends_name s) (λ n s1. ends_settle (resolved n scope) (λ path. ends_look _ _ (ends_give _)))

ends_alias_source : (scope : List Seg) (earlier : Earlier) (s : State) → Ends (alias_source scope earlier) s
unfolding alias_source
ends_alias_source scope earlier s = ends_then (ends_name s) (λ n s1. ends_settle (resolved n scope) (λ path. ends_look _ _ (ends_give _)))

ends_external_name : (scope : List Seg) (earlier : Earlier) (s : State) → Ends (external_name scope earlier) s
unfolding external_name
ends_external_name scope earlier s = ends_then (ends_name s) (λ n s1. ends_settle (resolved n scope) (λ path. ends_give _))

ends_declared_name : (scope : List Seg) (context : Context) (start count : ℕ) (earlier : Earlier) (s : State) → Ends (declared_name scope context start count earlier) s
unfolding declared_name
ends_declared_name scope context start count earlier s = ends_then (ends_name s) (λ n s1. ends_settle (declared_path scope context start n) (λ path. ends_then (ends_declare context path count false s1) (λ added s2. ends_give _)))

ends_integer_operand : (width : ℕ) (s : State) → Ends (integer_operand width) s
unfolding integer_operand
ends_integer_operand width s = ends_map number (ends_integer width s)

ends_method_flags : (context : Context) (earlier : Earlier) (s : State) → Ends (method_flags context earlier) s
unfolding method_flags
ends_method_flags context earlier s = ends_then (ends_byte s) (λ n s1. ends_then (ends_declare_earlier context earlier.path (n % 8) false s1) (λ added s2. ends_give _))

ends_object_type : (earlier : Earlier) (s : State) → Ends (object_type earlier) s
unfolding object_type
ends_object_type earlier s = ends_then (ends_byte s) (λ n s1. ends_give _)

ends_argument_count : (context : Context) (earlier : Earlier) (s : State) → Ends (argument_count context earlier) s
unfolding argument_count
ends_argument_count context earlier s = ends_then (ends_byte s) (λ n s1. ends_then (ends_declare_earlier context earlier.path (if earlier.count == 8 then n else 0) true s1) (λ added s2. ends_give _))

ends_text_operand : (s : State) → Ends text_operand s
unfolding text_operand
ends_text_operand s = ends_map bytes (ends_text s)

ends_bytes_operand : (s : State) → Ends bytes_operand s
unfolding bytes_operand
ends_bytes_operand s = ends_map bytes (ends_all s)

-- ---- field elements

ends_reserved : (s : State) → Ends reserved_field s
unfolding reserved_field
ends_reserved s = ends_then (ends_byte s) (λ code s1. ends_map _ (ends_bit_count s1))

ends_access : (s : State) → Ends access_field s
unfolding access_field
ends_access s = ends_then (ends_byte s) (λ code s1. ends_then (ends_byte s1) (λ access s2. ends_map _ (ends_byte s2)))

ends_extended : (s : State) → Ends extended_access_field s
unfolding extended_access_field
ends_extended s = ends_then (ends_byte s) (λ code s1. ends_then (ends_byte s1) (λ access s2. ends_then (ends_byte s2) (λ attribute s3. ends_map _ (ends_byte s3))))

ends_named_field : (scope : List Seg) (context : Context) (s : State) → Ends (named_field scope context) s
unfolding named_field
ends_named_field scope context s = ends_then (ends_segment s) (λ seg s1. ends_then (ends_declare context (scope ++ seg ∷ []) 0 false s1) (λ added s2. ends_map _ (ends_bit_count s2)))

-- ---- operands with terms

abbrev pub TermEnds : Inner → Type 0
TermEnds inner_term = (position : Position) (scope : List Seg) (context : Context) (s : State) → Ends (inner_term position scope context) s

module _ (inner_term : Inner) (h : TermEnds inner_term) where
  ends_items : (position : Position) (scope : List Seg) (context : Context) (s : State) → Ends (items inner_term position scope context) s
  unfolding items
  ends_items position scope context s = ends_as {n = until_end (inner_term position scope context) (length s.rest)} refl (ends_until _ (h position scope context) (length s.rest) s)

  ends_list : (position : Position) (scope : List Seg) (context : Context) (s : State) → Ends (list_operand inner_term position scope context) s
  unfolding list_operand
  ends_list position scope context s = ends_map _ (ends_items position scope context s)

  ends_term : (position : Position) (scope : List Seg) (context : Context) (s : State) → Ends (term_operand inner_term position scope context) s
  unfolding term_operand
  ends_term position scope context s = ends_map inner (h position scope context s)

  ends_super : (scope : List Seg) (context : Context) (s : State) → Ends (super_name inner_term scope context) s
  unfolding super_name
  ends_super scope context s = ends_peek (λ b. ends_if (b == 0) (ends_stop (refusals.Name BadName)) (ends_if (starts_name b) (ends_name_operand s) (ends_term positions.SuperName scope context s)))

  ends_target : (scope : List Seg) (context : Context) (s : State) → Ends (target inner_term scope context) s
  unfolding target
  ends_target scope context s = ends_peek (λ b. ends_if (b == 0) (ends_then (ends_byte s) (λ c s1. ends_give null)) (ends_super scope context s))

  ends_simple : (scope : List Seg) (context : Context) (s : State) → Ends (simple_name inner_term scope context) s
  unfolding simple_name
  ends_simple scope context s = ends_look (λ s. s.at) _ (ends_peek (λ b. ends_if (b == 0 || starts_name b || is_slot b) (ends_super scope context s) (ends_stop (refusals.Term BadOpcode s.at))))

  ends_connection : (scope : List Seg) (context : Context) (s : State) → Ends (connection inner_term scope context) s
  unfolding connection
  ends_connection scope context s = ends_peek (λ b. ends_if (starts_name b) (ends_name_operand s) (ends_if (b == 0x11) (ends_term positions.DataObject scope context s) (ends_stop (refusals.Name BadName))))

  pub ends_field : (scope : List Seg) (context : Context) (s : State) → Ends (field inner_term scope context) s
  unfolding field connect_field
  ends_field scope context s = ends_peek (λ b. ends_if (b == 0) (ends_reserved s) (ends_if (b == 1) (ends_access s) (ends_if (b == 2) (ends_then (ends_byte s) (λ code s1. ends_map _ (ends_connection scope context s1)))
      (ends_if (b == 3) (ends_extended s) (ends_named_field scope context s)))))

  ends_field_list : (scope : List Seg) (context : Context) (s : State) → Ends (fields_operand inner_term scope context) s
  unfolding fields_operand fields
  ends_field_list scope context s = ends_map _ (ends_as {n = until_end (field inner_term scope context) (length s.rest)} refl (ends_until _ (ends_field scope context) (length s.rest) s))

  pub ends_operand : (scope : List Seg) (context : Context) (start : ℕ) (k : OperandKind) (earlier : Earlier) (s : State) → Ends (operand inner_term scope context start k earlier) s
  unfolding operand
  ends_operand scope context start kinds.Nothing earlier s = ends_give _
  ends_operand scope context start kinds.NameString earlier s = ends_map _ (ends_name_operand s)
  ends_operand scope context start kinds.ScopeName earlier s = ends_scope_name scope earlier s
  ends_operand scope context start kinds.AliasSource earlier s = ends_alias_source scope earlier s
  ends_operand scope context start kinds.AliasName earlier s = ends_declared_name scope context start earlier.count earlier s
  ends_operand scope context start kinds.DeclaredName earlier s = ends_declared_name scope context start 0 earlier s
  ends_operand scope context start kinds.MethodFlags earlier s = ends_method_flags context earlier s
  ends_operand scope context start kinds.ExternalName earlier s = ends_external_name scope earlier s
  ends_operand scope context start kinds.ObjectType earlier s = ends_object_type earlier s
  ends_operand scope context start kinds.ArgumentCount earlier s = ends_argument_count context earlier s
  ends_operand scope context start kinds.ByteData earlier s = ends_map _ (ends_integer_operand 1 s)
  ends_operand scope context start kinds.WordData earlier s = ends_map _ (ends_integer_operand 2 s)
  ends_operand scope context start kinds.DWordData earlier s = ends_map _ (ends_integer_operand 4 s)
  ends_operand scope context start kinds.QWordData earlier s = ends_map _ (ends_integer_operand 8 s)
  ends_operand scope context start kinds.AsciiCharList earlier s = ends_map _ (ends_text_operand s)
  ends_operand scope context start kinds.TermArg earlier s = ends_map _ (ends_term positions.TermArg scope context s)
  ends_operand scope context start kinds.DataObject earlier s = ends_map _ (ends_term positions.DataObject scope context s)
  ends_operand scope context start kinds.SuperName earlier s = ends_map _ (ends_super scope context s)
  ends_operand scope context start kinds.Target earlier s = ends_map _ (ends_target scope context s)
  ends_operand scope context start kinds.SimpleName earlier s = ends_map _ (ends_simple scope context s)
  ends_operand scope context start kinds.TermList earlier s = ends_map _ (ends_list positions.ListItem (scope_of scope earlier.path) context s)
  ends_operand scope context start kinds.LoopTermList earlier s = ends_map _ (ends_list positions.ListItem (scope_of scope earlier.path) (in_loop context) s)
  ends_operand scope context start kinds.ByteList earlier s = ends_map _ (ends_bytes_operand s)
  ends_operand scope context start kinds.PackageElementList earlier s = ends_map _ (ends_list positions.PackageElement (scope_of scope earlier.path) context s)
  ends_operand scope context start kinds.FieldList earlier s = ends_map _ (ends_field_list scope context s)

  -- ---- rows

  ends_operands : (scope : List Seg) (context : Context) (start : ℕ) (ks : List OperandKind) (earlier : Earlier) (s : State) → Ends (operands inner_term scope context start ks earlier) s
  unfolding operands
  ends_operands scope context start [] earlier s = ends_give []
  ends_operands scope context start (k ∷ ks) earlier s = ends_if (is_nothing k) (ends_give []) (ends_then (ends_operand scope context start k earlier s) (λ x s1. ends_map (λ ps. x.0 ∷ ps) (ends_operands scope context start ks x.1 s1)))

  pub ends_row_operands : (scope : List Seg) (context : Context) (start : ℕ) (row : Row) (s : State) → Ends (row_operands inner_term scope context start row) s
  ends_row_operands scope context start row s = ends_packed row.2 _ (ends_operands scope context start (kinds_of row.3) nothing_earlier) s

  ends_else_operand : (scope : List Seg) (context : Context) (s : State) → Ends (else_operand inner_term scope context) s
  unfolding else_operand else_term
  ends_else_operand scope context s = ends_map inner (ends_then (ends_byte s) (λ code s1. ends_map _ (ends_packed true _ (ends_list positions.ListItem scope context) s1)))

  ends_else_if : (scope : List Seg) (context : Context) (s : State) (b : Bool) → Ends (λ t. if b then else_operand inner_term scope context t else (Ok null, t)) s
  unfolding give
  ends_else_if scope context s true = ends_else_operand scope context s
  ends_else_if scope context s false = ends_give null

  ends_else_part : (scope : List Seg) (context : Context) (start : ℕ) (s : State) → Ends (else_part inner_term scope context start) s
  unfolding else_part
  ends_else_part scope context start s = record { is = λ p s2 e. (ends_else_if scope (at_else context start s.at) s (is_next 0xA1 s.rest)).is p s2 e }

  pub ends_row_term : (scope : List Seg) (context : Context) (start : ℕ) (row : Row) (s : State) → Ends (row_term inner_term scope context start row) s
  unfolding row_term plain_term if_term
  ends_row_term scope context start row s = ends_as refl (ends_if (is_if row.0) (ends_then (ends_row_operands scope context start row s) (λ ps s1. ends_map _ (ends_else_part scope context start s1))) (ends_map _ (ends_row_operands scope context start row s)))
