-- Operands and field elements that hold no terms are read from their spelling.
use Rattle.std.proofs.Common.{◌≡◌, ℕ, ◌%◌, ◌<◌, List, [], ◌∷◌, ◌++◌, Bool, true, false, Option, Some, None, Ok, refl, ◌∙◌, ap}
use Rattle.std.specs.Prelude.{◌==◌, if◌then◌else◌}
use Rattle.std.specs.List.{AllByRecursion}
use Rattle.aml_path.specs.declared.segment.Seg.{Seg}
use Rattle.aml_path.specs.Paths.{Name, resolved}
use Rattle.aml_grammar.specs.declared.opcode.TermCode.TheVariants.{NamedField, ReservedField, AccessField, ExtendedAccessField}
use Rattle.aml_grammar.specs.declared.context.Context.{Context}
use Rattle.aml_grammar.specs.declared.context.Earlier.{Earlier}
use Rattle.aml_arities.specs.declared.arities.Arity.{Arity}
use Rattle.aml_arities.specs.Arities.{found, or_path, arity_of}
use Rattle.aml_grammar.specs.State.{State, adding}
use Rattle.aml_grammar.specs.Operands.{declare, declare_earlier, name_operand, scope_name, alias_source, external_name, declared_name, integer_operand, method_flags, object_type, argument_count, text_operand, bytes_operand, reserved_field, access_field, extended_access_field, one_segment, named_field}
use Rattle.aml_grammar.specs.Tree.{term, name, number, bytes}
use Rattle.aml_grammar.specs.Shape.{parts_of}
use Rattle.aml_scan.specs.Spelling.{IsInteger, IsLength, IsNameString}
use Rattle.aml_spelling.specs.Stands.{declaring, declaring_earlier, Declares}
use Rattle.aml_spelling.proofs.Gets.{Gets, gets_then, gets_give, gets_map, gets_value, gets_look, gets_settle, gets_byte, gets_all, gets_integer, gets_bit_count, gets_text}
use Rattle.aml_spelling.proofs.GetsNames.{gets_name, gets_segment}
use Rattle.aml_spelling.proofs.NameRefusals.{declared_is}

-- ---- what declares a name

declared_rest : (c : Bool) (path : List Seg) (n : ℕ) (external : Bool) (s : State) → (if c then s else adding path n external s).rest ≡ s.rest
declared_rest true path n external s = refl
declared_rest false path n external s = refl

declared_known : (c : Bool) (path : List Seg) (n : ℕ) (external : Bool) (s : State) → (if c then s else adding path n external s).arities ≡ declaring c path n external s.arities
declared_known true path n external s = refl
declared_known false path n external s = refl

gets_declare : {s : State} {rest : List ℕ} {known : List Arity} (context : Context) (path : List Seg) (n : ℕ) (external : Bool) → s.rest ≡ rest → s.arities ≡ known → Gets (declare context path n external) s tt rest (declaring context.body path n external known)
gets_declare {s = s} context path n external is ar = record {
  after = if context.body then s else adding path n external s;
  is = refl;
  left = declared_rest context.body path n external s ∙ is;
  knows = declared_known context.body path n external s ∙ ap (λ a. declaring context.body path n external a) ar;
}

gets_declare_earlier : {s : State} {rest : List ℕ} {known : List Arity} (context : Context) (path : Option (List Seg)) (n : ℕ) (external : Bool) → s.rest ≡ rest → s.arities ≡ known
    → Gets (declare_earlier context path n external) s tt rest (declaring_earlier context.body path n external known)
gets_declare_earlier context None n external is ar = gets_give tt is ar
gets_declare_earlier context (Some path) n external is ar = gets_declare context path n external is ar

-- ---- names

module _ {s : State} {rest : List ℕ} {known : List Arity} (n : Name) (spelling : List ℕ) (h : IsNameString n spelling) (is : s.rest ≡ spelling ++ rest) (ar : s.arities ≡ known) where
  pub gets_name_operand : Gets name_operand s (name n) rest known
  unfolding name_operand
  gets_name_operand = gets_map name (gets_name n spelling h is ar)

  pub gets_scope_name : (scope : List Seg) (earlier : Earlier) (path : List Seg) → resolved n scope ≡ Ok path → Gets (scope_name scope earlier) s (name n, record earlier { path = Some (or_path path (found known scope n path)) }) rest known
  unfolding scope_name
  gets_scope_name scope earlier path e = gets_then _ (gets_name n spelling h is ar) (λ s1 is1 ar1. gets_settle _ e (gets_look _ _ (gets_value (ap (λ (a : List Arity). (name n, record earlier { path = Some (or_path path (found a scope n path)) })) ar1) (gets_give _ is1 ar1))))

  pub gets_alias_source : (scope : List Seg) (earlier : Earlier) (path : List Seg) → resolved n scope ≡ Ok path → Gets (alias_source scope earlier) s (name n, record earlier { count = arity_of known scope n path }) rest known
  unfolding alias_source
  gets_alias_source scope earlier path e = gets_then _ (gets_name n spelling h is ar) (λ s1 is1 ar1. gets_settle _ e (gets_look _ _ (gets_value (ap (λ (a : List Arity). (name n, record earlier { count = arity_of a scope n path })) ar1) (gets_give _ is1 ar1))))

  pub gets_external_name : (scope : List Seg) (earlier : Earlier) (path : List Seg) → resolved n scope ≡ Ok path → Gets (external_name scope earlier) s (name n, record earlier { path = Some path }) rest known
  unfolding external_name
  gets_external_name scope earlier path e = gets_then _ (gets_name n spelling h is ar) (λ s1 is1 ar1. gets_settle _ e (gets_give _ is1 ar1))

  pub gets_declared_name : (scope : List Seg) (context : Context) (start count : ℕ) (earlier : Earlier) (path : List Seg) → Declares scope context.body n path
      → Gets (declared_name scope context start count earlier) s (name n, record earlier { path = Some path }) rest (declaring context.body path count false known)
  unfolding declared_name
  gets_declared_name scope context start count earlier path d = gets_then _ (gets_name n spelling h is ar) (λ s1 is1 ar1. gets_settle _ (declared_is scope context start n path d.0 d.1 d.2) (gets_then _ (gets_declare context path count false is1 ar1) (λ s2 is2 ar2. gets_give _ is2 ar2)))

-- ---- numbers and bytes

module _ {s : State} {rest : List ℕ} {known : List Arity} (ar : s.arities ≡ known) where
  pub gets_integer_operand : (width n : ℕ) (spelling : List ℕ) → IsInteger width n spelling → s.rest ≡ spelling ++ rest → Gets (integer_operand width) s (number n) rest known
  unfolding integer_operand
  gets_integer_operand width n spelling h is = gets_map number (gets_integer width n spelling h is ar)

  pub gets_method_flags : (context : Context) (earlier : Earlier) (n : ℕ) → s.rest ≡ n ∷ rest → Gets (method_flags context earlier) s (number n, earlier) rest (declaring_earlier context.body earlier.path (n % 8) false known)
  unfolding method_flags
  gets_method_flags context earlier n is = gets_then _ (gets_byte is ar) (λ s1 is1 ar1. gets_then _ (gets_declare_earlier context earlier.path (n % 8) false is1 ar1) (λ s2 is2 ar2. gets_give _ is2 ar2))

  pub gets_object_type : (earlier : Earlier) (n : ℕ) → s.rest ≡ n ∷ rest → Gets (object_type earlier) s (number n, record earlier { count = n }) rest known
  unfolding object_type
  gets_object_type earlier n is = gets_then _ (gets_byte is ar) (λ s1 is1 ar1. gets_give _ is1 ar1)

  pub gets_argument_count : (context : Context) (earlier : Earlier) (n : ℕ) → s.rest ≡ n ∷ rest
      → Gets (argument_count context earlier) s (number n, earlier) rest (declaring_earlier context.body earlier.path (if earlier.count == 8 then n else 0) true known)
  unfolding argument_count
  gets_argument_count context earlier n is = gets_then _ (gets_byte is ar) (λ s1 is1 ar1. gets_then _ (gets_declare_earlier context earlier.path (if earlier.count == 8 then n else 0) true is1 ar1) (λ s2 is2 ar2. gets_give _ is2 ar2))

  pub gets_text_operand : (bs : List ℕ) → AllByRecursion (λ b. 0 < b) bs → s.rest ≡ (bs ++ 0 ∷ []) ++ rest → Gets text_operand s (bytes bs) rest known
  unfolding text_operand
  gets_text_operand bs some is = gets_map bytes (gets_text bs some is ar)

  -- ---- field elements

  pub gets_reserved_field : (n : ℕ) (spelling : List ℕ) → IsLength n spelling → s.rest ≡ 0 ∷ (spelling ++ rest) → Gets reserved_field s (term ReservedField (parts_of (number n ∷ []))) rest known
  unfolding reserved_field
  gets_reserved_field n spelling h is = gets_then _ (gets_byte is ar) (λ s1 is1 ar1. gets_map _ (gets_bit_count n spelling h is1 ar1))

  pub gets_access_field : (access attribute : ℕ) → s.rest ≡ 1 ∷ access ∷ attribute ∷ rest → Gets access_field s (term AccessField (parts_of (number access ∷ number attribute ∷ []))) rest known
  unfolding access_field
  gets_access_field access attribute is = gets_then _ (gets_byte is ar) (λ s1 is1 ar1. gets_then _ (gets_byte is1 ar1) (λ s2 is2 ar2. gets_map _ (gets_byte is2 ar2)))

  pub gets_extended_access_field : (access attribute count : ℕ) → s.rest ≡ 3 ∷ access ∷ attribute ∷ count ∷ rest → Gets extended_access_field s (term ExtendedAccessField (parts_of (number access ∷ number attribute ∷ number count ∷ []))) rest known
  unfolding extended_access_field
  gets_extended_access_field access attribute count is = gets_then _ (gets_byte is ar) (λ s1 is1 ar1. gets_then _ (gets_byte is1 ar1) (λ s2 is2 ar2. gets_then _ (gets_byte is2 ar2) (λ s3 is3 ar3. gets_map _ (gets_byte is3 ar3))))

  pub gets_named_field : (scope : List Seg) (context : Context) (seg : Seg) (n : ℕ) (spelling : List ℕ) → IsLength n spelling → s.rest ≡ seg.bytes ++ (spelling ++ rest)
      → Gets (named_field scope context) s (term NamedField (parts_of (name (one_segment seg) ∷ number n ∷ []))) rest (declaring context.body (scope ++ seg ∷ []) 0 false known)
  unfolding named_field
  gets_named_field scope context seg n spelling h is = gets_then _ (gets_segment seg is ar) (λ s1 is1 ar1. gets_then _ (gets_declare context (scope ++ seg ∷ []) 0 false is1 ar1) (λ s2 is2 ar2. gets_map _ (gets_bit_count n spelling h is2 ar2)))

pub gets_bytes_operand : {s : State} {bs : List ℕ} {known : List Arity} → s.rest ≡ bs → s.arities ≡ known → Gets bytes_operand s (bytes bs) [] known
unfolding bytes_operand
gets_bytes_operand is ar = gets_map bytes (gets_all is ar)
