-- Operands and field elements that hold no terms are steady.
use Rattle.std.proofs.Common.{◌≡◌, ℕ, ◌%◌, ◌<◌, List, [], ◌∷◌, ◌++◌, Bool, true, false, Option, Some, None, refl, ap, arith}
use Rattle.std.specs.Prelude.{◌==◌, if◌then◌else◌}
use Rattle.ar_space.specs.Change.{settle, ◌>>=◌}
use Rattle.aml_path.specs.declared.segment.Seg.{Seg}
use Rattle.aml_path.specs.Paths.{Name, resolved}
use Rattle.aml_grammar.specs.declared.context.Context.{Context}
use Rattle.aml_grammar.specs.declared.context.Earlier.{Earlier}
use Rattle.aml_grammar.specs.DeclaredNames.{declared_path}
use Rattle.aml_grammar.specs.State.{State, Step, adding}
use Rattle.aml_grammar.specs.Operands.{declare, declare_earlier, name_operand, scope_name, alias_source, external_name, declared_name, integer_operand, method_flags, object_type, argument_count, text_operand, bytes_operand, reserved_field, access_field, extended_access_field, named_field}
use Rattle.aml_grammar.specs.Tree.{name, number, bytes}
use Rattle.aml_spelling.proofs.Steady.{Apart, Steady, steady_then, steady_give, steady_map, steady_settled, steady_from, steady_look}
use Rattle.aml_spelling.proofs.SteadyBytes.{steady_byte, steady_integer, steady_bit_count, steady_text, steady_all}
use Rattle.aml_spelling.proofs.SteadyNames.{steady_name, steady_segment}
use Rattle.aml_spelling.proofs.NameRefusals.{not_resolved, not_declared}

-- ---- what declares a name

declared_at : (c : Bool) (path : List Seg) (n : ℕ) (external : Bool) (s : State) → (if c then s else adding path n external s).at ≡ s.at
declared_at true path n external s = refl
declared_at false path n external s = refl

declared_apart : {p : ℕ} {s t : State} (c : Bool) (path : List Seg) (n : ℕ) (external : Bool) → Apart p s t → Apart p (if c then s else adding path n external s) (if c then t else adding path n external t)
declared_apart true path n external apart = apart
declared_apart false path n external apart = record {
  front = apart.front;
  back = apart.back;
  other = apart.other;
  one = apart.one;
  size = apart.size;
  here = apart.here;
  two = ap (λ (u : State). adding path n external u) apart.two;
}

steady_declare : (context : Context) (path : List Seg) (n : ℕ) (external : Bool) (s : State) → Steady false false (declare context path n external) s
steady_declare context path n external s =
    let stays = declared_at context.body path n external s in
    record {
      onward = omega (arith, stays);
      placed = λ r e. absurd (cc e);
      same = λ p t apart le. (refl, declared_apart context.body path n external apart);
    }

steady_declare_earlier : (context : Context) (path : Option (List Seg)) (n : ℕ) (external : Bool) (s : State) → Steady false false (declare_earlier context path n external) s
steady_declare_earlier context None n external s = steady_give tt s
steady_declare_earlier context (Some path) n external s = steady_declare context path n external s

-- ---- names

-- a name that is resolved in its scope, and then the rest
pub steady_resolved : {B : Type 0} {w : Bool} (n : Name) (scope : List Seg) (k : List Seg → Step B) (s : State) → ((path : List Seg) (s1 : State) → Steady false w (k path) s1) → Steady false w (settle (resolved n scope) >>= k) s
steady_resolved n scope k s h = steady_then (steady_settled (resolved n scope) s (λ r e. not_resolved n scope r e s)) h

pub steady_name_operand : (s : State) → Steady true false name_operand s
unfolding name_operand
steady_name_operand s = steady_map name (steady_name s)

pub steady_scope_name : (scope : List Seg) (earlier : Earlier) (s : State) → Steady true false (scope_name scope earlier) s
unfolding scope_name
steady_scope_name scope earlier s = steady_then (steady_name s) (λ n s1. steady_resolved n scope _ s1 (λ path s2. steady_look _ _ (λ ys. refl) (steady_give _ s2)))

pub steady_alias_source : (scope : List Seg) (earlier : Earlier) (s : State) → Steady true false (alias_source scope earlier) s
unfolding alias_source
steady_alias_source scope earlier s = steady_then (steady_name s) (λ n s1. steady_resolved n scope _ s1 (λ path s2. steady_look _ _ (λ ys. refl) (steady_give _ s2)))

pub steady_external_name : (scope : List Seg) (earlier : Earlier) (s : State) → Steady true false (external_name scope earlier) s
unfolding external_name
steady_external_name scope earlier s = steady_then (steady_name s) (λ n s1. steady_resolved n scope _ s1 (λ path s2. steady_give _ s2))

pub steady_declared_name : (scope : List Seg) (context : Context) (start count : ℕ) (earlier : Earlier) (s : State) → Steady true false (declared_name scope context start count earlier) s
unfolding declared_name
steady_declared_name scope context start count earlier s = steady_then (steady_name s) (λ n s1. steady_then (steady_settled (declared_path scope context start n) s1 (λ r e. not_declared scope context start n r e s1)) (λ path s2.
    steady_then (steady_declare context path count false s2) (λ added s3. steady_give _ s3)))

-- ---- numbers and bytes

pub steady_integer_operand : (width : ℕ) → 0 < width → (s : State) → Steady true false (integer_operand width) s
unfolding integer_operand
steady_integer_operand width some s = steady_map number (steady_integer width s (λ _. some))

pub steady_method_flags : (context : Context) (earlier : Earlier) (s : State) → Steady true false (method_flags context earlier) s
unfolding method_flags
steady_method_flags context earlier s = steady_then (steady_byte s) (λ n s1. steady_then (steady_declare_earlier context earlier.path (n % 8) false s1) (λ added s2. steady_give _ s2))

pub steady_object_type : (earlier : Earlier) (s : State) → Steady true false (object_type earlier) s
unfolding object_type
steady_object_type earlier s = steady_then (steady_byte s) (λ n s1. steady_give _ s1)

pub steady_argument_count : (context : Context) (earlier : Earlier) (s : State) → Steady true false (argument_count context earlier) s
unfolding argument_count
steady_argument_count context earlier s = steady_then (steady_byte s) (λ n s1. steady_then (steady_declare_earlier context earlier.path (if earlier.count == 8 then n else 0) true s1) (λ added s2. steady_give _ s2))

pub steady_text_operand : (s : State) → Steady true false text_operand s
unfolding text_operand
steady_text_operand s = steady_map bytes (steady_text s)

pub steady_bytes_operand : (s : State) → Steady true false bytes_operand s
unfolding bytes_operand
steady_bytes_operand s = steady_map bytes (steady_all s)

-- ---- field elements

pub steady_reserved_field : (s : State) → Steady true false reserved_field s
unfolding reserved_field
steady_reserved_field s = steady_then (steady_byte s) (λ code s1. steady_map _ (steady_from false (steady_bit_count s1)))

pub steady_access_field : (s : State) → Steady true false access_field s
unfolding access_field
steady_access_field s = steady_then (steady_byte s) (λ code s1. steady_then (steady_from false (steady_byte s1)) (λ access s2. steady_map _ (steady_from false (steady_byte s2))))

pub steady_extended_access_field : (s : State) → Steady true false extended_access_field s
unfolding extended_access_field
steady_extended_access_field s = steady_then (steady_byte s) (λ code s1. steady_then (steady_from false (steady_byte s1)) (λ access s2. steady_then (steady_from false (steady_byte s2)) (λ attribute s3. steady_map _ (steady_from false (steady_byte s3)))))

pub steady_named_field : (scope : List Seg) (context : Context) (s : State) → Steady true false (named_field scope context) s
unfolding named_field
steady_named_field scope context s = steady_then (steady_segment s) (λ seg s1. steady_then (steady_declare context (scope ++ seg ∷ []) 0 false s1) (λ added s2. steady_map _ (steady_from false (steady_bit_count s2))))
