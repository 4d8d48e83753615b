-- Operands and field elements that hold no terms may stand where they are read.
use Rattle.std.proofs.Common.{◌≡◌, ℕ, ◌%◌, List, [], ◌∷◌, ◌++◌, Bool, true, false, Option, Some, None, refl, ◌∙◌, sym, ap}
use Rattle.std.specs.Prelude.{◌==◌, if◌then◌else◌}
use Rattle.aml_path.specs.declared.segment.Seg.{Seg}
use Rattle.aml_path.specs.Paths.{Name}
use Rattle.aml_grammar.specs.declared.kinds.OperandKind.{OperandKind}
use Rattle.aml_grammar.specs.declared.kinds.OperandKind.TheVariants as kinds
use Rattle.aml_grammar.specs.declared.context.Context.{Context}
use Rattle.aml_grammar.specs.declared.context.Earlier.{Earlier}
use Rattle.aml_grammar.specs.State.{State, adding}
use Rattle.aml_grammar.specs.Operands.{Read, declare, declare_earlier, name_operand, scope_name, alias_source, external_name, declared_name, integer_operand, method_flags, object_type, argument_count, text_operand, bytes_operand, reserved_field, access_field, extended_access_field, named_field}
use Rattle.aml_grammar.specs.Tree.{Tree, name, number, bytes}
use Rattle.aml_scan.specs.Spelling.{Around, field_element}
use Rattle.aml_scan.proofs.SpelledRows.{around_of}
use Rattle.aml_scan.proofs.Takes.{same_state}
use Rattle.aml_spelling.specs.Stands.{declaring, declaring_earlier, Declares, Stands, StandsOperand}
use Rattle.aml_spelling.proofs.Leaves.{Effect, Leaves, leaves_then, leaves_after, leaves_give, leaves_map, leaves_look, leaves_settle, leaves_byte, leaves_all, leaves_integer, leaves_bit_count, leaves_text, leaves_segment, leaves_name}
use Rattle.aml_spelling.proofs.NameRefusals.{declared_was}

-- ---- what declares a name

declared_known : (c : Bool) (path : List Seg) (n : ℕ) (external : Bool) (s : State) → (if c then s else adding path n external s).arities ≡ declaring c path n external s.arities
declared_known true path n external s = refl
declared_known false path n external s = refl

leaves_declare : (context : Context) (path : List Seg) (n : ℕ) (external : Bool) (s : State) → Leaves (declare context path n external) s (λ u known after. after ≡ declaring context.body path n external known)
leaves_declare context path n external s = record { is = λ u s2 e. sym (ap (λ (t : State). t.arities) (same_state e)) ∙ declared_known context.body path n external s }

leaves_declare_earlier : (context : Context) (path : Option (List Seg)) (n : ℕ) (external : Bool) (s : State) → Leaves (declare_earlier context path n external) s (λ u known after. after ≡ declaring_earlier context.body path n external known)
leaves_declare_earlier context None n external s = leaves_give tt refl
leaves_declare_earlier context (Some path) n external s = leaves_declare context path n external s

-- ---- operands

-- an operand may stand after others
abbrev pub OperandStands : ℕ → List Seg → Around → OperandKind → Earlier → Effect Read
OperandStands levels scope around k earlier x known after = StandsOperand levels scope around k x.0 earlier known x.1 after

pub leaves_name_operand : (s : State) → Leaves name_operand s (λ p known after. (n : Name) × (p ≡ name n) × (after ≡ known))
unfolding name_operand
leaves_name_operand s = leaves_map name (leaves_name s) (λ n known after e. (n, refl, e))

module _ (levels : ℕ) (scope : List Seg) (around : Around) (earlier : Earlier) (s : State) where
  pub leaves_scope_name : Leaves (scope_name scope earlier) s (OperandStands levels scope around kinds.ScopeName earlier)
  unfolding scope_name Stands
  leaves_scope_name = leaves_after (leaves_name s) (λ n s1. leaves_settle (λ path e. leaves_look _ _ (leaves_give _ (path, e, refl, refl))))

  pub leaves_alias_source : Leaves (alias_source scope earlier) s (OperandStands levels scope around kinds.AliasSource earlier)
  unfolding alias_source Stands
  leaves_alias_source = leaves_after (leaves_name s) (λ n s1. leaves_settle (λ path e. leaves_look _ _ (leaves_give _ (path, e, refl, refl))))

  pub leaves_external_name : Leaves (external_name scope earlier) s (OperandStands levels scope around kinds.ExternalName earlier)
  unfolding external_name Stands
  leaves_external_name = leaves_after (leaves_name s) (λ n s1. leaves_settle (λ path e. leaves_give _ (path, e, refl, refl)))

  pub leaves_object_type : Leaves (object_type earlier) s (OperandStands levels scope around kinds.ObjectType earlier)
  unfolding object_type Stands
  leaves_object_type = leaves_after (leaves_byte s) (λ n s1. leaves_give _ (refl, refl))

module _ (levels : ℕ) (scope : List Seg) (context : Context) (earlier : Earlier) (s : State) where
  pub leaves_declared_name : (start count : ℕ) → Leaves (declared_name scope context start count earlier) s
      (λ x known after. (n : Name) × (x.0 ≡ name n) × (path : List Seg) × Declares scope context.body n path × (x.1 ≡ record earlier { path = Some path }) × (after ≡ declaring context.body path count false known))
  unfolding declared_name
  leaves_declared_name start count = leaves_after (leaves_name s) (λ n s1. leaves_settle (λ path e. leaves_then (leaves_declare context path count false s1) (λ added s2 p. leaves_give _ (n, refl, path, declared_was scope context start n path e, refl, p))))

  pub leaves_method_flags : Leaves (method_flags context earlier) s (OperandStands levels scope (around_of context) kinds.MethodFlags earlier)
  unfolding method_flags Stands
  leaves_method_flags = leaves_after (leaves_byte s) (λ n s1. leaves_then (leaves_declare_earlier context earlier.path (n % 8) false s1) (λ added s2 p. leaves_give _ (refl, p)))

  pub leaves_argument_count : Leaves (argument_count context earlier) s (OperandStands levels scope (around_of context) kinds.ArgumentCount earlier)
  unfolding argument_count Stands
  leaves_argument_count = leaves_after (leaves_byte s) (λ n s1. leaves_then (leaves_declare_earlier context earlier.path (if earlier.count == 8 then n else 0) true s1) (λ added s2 p. leaves_give _ (refl, p)))

pub leaves_integer_operand : (width : ℕ) (s : State) → Leaves (integer_operand width) s (λ p known after. (n : ℕ) × (p ≡ number n) × (after ≡ known))
unfolding integer_operand
leaves_integer_operand width s = leaves_map number (leaves_integer width s) (λ n known after e. (n, refl, e))

pub leaves_text_operand : (s : State) → Leaves text_operand s (λ p known after. (bs : List ℕ) × (p ≡ bytes bs) × (after ≡ known))
unfolding text_operand
leaves_text_operand s = leaves_map bytes (leaves_text s) (λ bs known after e. (bs, refl, e))

pub leaves_bytes_operand : (s : State) → Leaves bytes_operand s (λ p known after. (bs : List ℕ) × (p ≡ bytes bs) × (after ≡ known))
unfolding bytes_operand
leaves_bytes_operand s = leaves_map bytes (leaves_all s) (λ bs known after e. (bs, refl, e))

-- ---- field elements

-- a field element may stand there
abbrev pub ElementStands : ℕ → List Seg → Around → Effect Tree
ElementStands levels scope around t known after = Stands levels scope around field_element t known after

module _ (levels : ℕ) (scope : List Seg) (around : Around) (s : State) where
  pub leaves_reserved_field : Leaves reserved_field s (ElementStands levels scope around)
  unfolding reserved_field Stands
  leaves_reserved_field = leaves_after (leaves_byte s) (λ code s1. leaves_map _ (leaves_bit_count s1) (λ n known after e. e))

  pub leaves_access_field : Leaves access_field s (ElementStands levels scope around)
  unfolding access_field Stands
  leaves_access_field = leaves_after (leaves_byte s) (λ code s1. leaves_after (leaves_byte s1) (λ access s2. leaves_map _ (leaves_byte s2) (λ n known after e. e)))

  pub leaves_extended_access_field : Leaves extended_access_field s (ElementStands levels scope around)
  unfolding extended_access_field Stands
  leaves_extended_access_field = leaves_after (leaves_byte s) (λ code s1. leaves_after (leaves_byte s1) (λ access s2. leaves_after (leaves_byte s2) (λ attribute s3. leaves_map _ (leaves_byte s3) (λ n known after e. e))))

pub leaves_named_field : (levels : ℕ) (scope : List Seg) (context : Context) (s : State) → Leaves (named_field scope context) s (ElementStands levels scope (around_of context))
unfolding named_field Stands
leaves_named_field levels scope context s = leaves_after (leaves_segment s) (λ seg s1. leaves_then (leaves_declare context (scope ++ seg ∷ []) 0 false s1) (λ added s2 p. leaves_then (leaves_bit_count s2) (λ n s3 e. leaves_give _ (e ∙ p))))
