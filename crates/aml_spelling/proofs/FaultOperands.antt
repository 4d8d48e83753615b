-- Where an operand that holds no terms is refused, its fault stands there.
use Rattle.std.proofs.Common.{◌≡◌, ℕ, ◌%◌, List, [], Bool, true, false, Option, Some, None, Ok, Err, refl, subst, ◌∙◌, sym, arith, inl, inr}
use Rattle.std.specs.Prelude.{◌==◌, if◌then◌else◌}
use Rattle.ar_space.specs.Change.{settle, go_on, ◌>>=◌}
use Rattle.ar_space.specs.Outcome.{Outcome}
use Rattle.ar_space.specs.declared.refusal.Refusal.{Refusal}
use Rattle.ar_space.specs.declared.refusal.Refusal.TheVariants as refusals
use Rattle.ar_space.specs.declared.refusal.NameFault.TheVariants.{BadName, AboveRoot}
use Rattle.ar_space.specs.declared.refusal.TermFault.TheVariants.{NotInBody}
use Rattle.aml_path.specs.declared.segment.Seg.{Seg}
use Rattle.aml_path.specs.Paths.{Name, is_null, resolved}
use Rattle.aml_grammar.specs.declared.context.Context.{Context}
use Rattle.aml_grammar.specs.declared.context.Earlier.{Earlier}
use Rattle.aml_grammar.specs.DeclaredNames.{declared_path}
use Rattle.aml_grammar.specs.State.{State, Step, byte, all_bytes}
use Rattle.aml_grammar.specs.Names.{name_string}
use Rattle.aml_grammar.specs.Tree.{name, number, bytes}
use Rattle.aml_grammar.specs.Operands.{declare, declare_earlier, name_operand, scope_name, alias_source, external_name, declared_name, integer_operand, method_flags, object_type, argument_count, text_operand, bytes_operand}
use Rattle.aml_scan.proofs.SpelledNames.{takes_name}
use Rattle.aml_spelling.specs.Faults.{Spot, IsName, IsNumber, IsText, NameAt, LeadsOut, AtPart, AtResolved, AtDeclared}
use Rattle.aml_spelling.proofs.FaultNames.{Declined, why_resolved, why_declined}
use Rattle.aml_spelling.proofs.FaultNameStrings.{refuses_name}
use Rattle.aml_spelling.proofs.FaultParts.{StandsAt, at_short, at_end, short_number, part_number, part_text}
use Rattle.aml_spelling.proofs.Halts.{Halts, went_on, same_refusal, halts_then, halts_give, halts_map, halts_more, halts_look, halts_byte}

-- ---- what never refuses

pub halts_settle : {A B : Type 0} {s : State} {F : Refusal → Type 0} (x : Outcome A) (k : A → Step B) → ((r : Refusal) → x ≡ Err r → F r) → ((a : A) → x ≡ Ok a → Halts (k a) s F) → Halts (settle x >>= k) s F
unfolding ◌>>=◌ go_on settle
halts_settle {F = F} (Ok a) k none h = record { is = λ r s2 e. (h a refl).is r s2 e }
halts_settle {F = F} (Err q) k none h = record { is = λ r s2 e. subst F (same_refusal e) (none q refl) }

pub halts_declare : (context : Context) (path : List Seg) (n : ℕ) (external : Bool) (s : State) (F : Refusal → Type 0) → Halts (declare context path n external) s F
halts_declare context path n external s F = record { is = λ r s2 e. absurd (went_on e) }

halts_declare_earlier : (context : Context) (path : Option (List Seg)) (n : ℕ) (external : Bool) (s : State) (F : Refusal → Type 0) → Halts (declare_earlier context path n external) s F
halts_declare_earlier context None n external s F = halts_give tt
halts_declare_earlier context (Some path) n external s F = halts_declare context path n external s F

-- ---- names

part_resolved : (spot : Spot) (r : Refusal) → AtPart IsName spot r → AtResolved spot r
part_resolved spot (refusals.Name AboveRoot) h = absurd h
part_resolved spot r h = h

pub name_at : (s s1 : State) (spot : Spot) (n : Name) → StandsAt s spot → name_string s ≡ (Ok n, s1) → NameAt spot n × (is_null n ≡ false)
name_at s s1 spot n here e = let t = (takes_name s).is n s1 e in ((t.0, s1.rest, sym here.1 ∙ t.1, t.2), t.2.3)

above : (spot : Spot) (n : Name) (r : Refusal) → NameAt spot n → LeadsOut n spot.scope × (r ≡ refusals.Name AboveRoot) → AtResolved spot r
above spot n r h l = rw l.1 (n, h, l.0)

-- a name that is resolved, and what never refuses
pub halts_resolved : {B : Type 0} (s : State) (spot : Spot) (k : Name → List Seg → Step B) → StandsAt s spot → ((n : Name) (path : List Seg) (s1 : State) → Halts (k n path) s1 (λ r. AtResolved spot r))
    → Halts (name_string >>= (λ n. settle (resolved n spot.scope) >>= k n)) s (λ r. AtResolved spot r)
halts_resolved s spot k here h = halts_then (halts_more (refuses_name s spot here) (part_resolved spot)) (λ n s1 e.
    let t = name_at s s1 spot n here e in
    halts_settle (resolved n spot.scope) (k n) (λ r is. above spot n r t.0 (why_resolved n spot.scope r t.1 is)) (λ path is. h n path s1))

part_declared : (start : ℕ) (spot : Spot) (r : Refusal) → AtPart IsName spot r → AtDeclared start spot r
part_declared start spot (refusals.Name BadName) h = inl h
part_declared start spot (refusals.Name AboveRoot) h = absurd h
part_declared start spot (refusals.Term NotInBody offset) h = absurd h
part_declared start spot r h = h

declined_at : (start : ℕ) (spot : Spot) (n : Name) (r : Refusal) → NameAt spot n → Declined spot.around.body start n spot.scope r → AtDeclared start spot r
declined_at start spot n r h (inl d) = rw d.0 (inr (n, h, d.1))
declined_at start spot n r h (inr (inl d)) = rw d.0 (n, h, d.1, d.2)
declined_at start spot n r h (inr (inr d)) = rw d.0 (n, h, d.1, d.2, d.3, d.4, refl)

module _ (s : State) (spot : Spot) (here : StandsAt s spot) where
  halts_one : {B : Type 0} (k : ℕ → Step B) → ((n : ℕ) (s1 : State) → Halts (k n) s1 (λ r. AtPart (IsNumber 1) spot r)) → Halts (byte >>= k) s (λ r. AtPart (IsNumber 1) spot r)
  halts_one k h = halts_then (halts_more (halts_byte s) (λ r m. at_short (IsNumber 1) spot r s.at m.0 (at_end s spot here m.1) (rw (← here.1, m.1) (short_number 1 [] (omega arith))))) (λ n s1 e. h n s1)

  pub halts_name_operand : Halts name_operand s (λ r. AtPart IsName spot r)
  unfolding name_operand
  halts_name_operand = halts_map name (refuses_name s spot here)

  pub halts_integer_operand : (width : ℕ) → Halts (integer_operand width) s (λ r. AtPart (IsNumber width) spot r)
  unfolding integer_operand
  halts_integer_operand width = halts_map number (part_number width s spot here)

  pub halts_text_operand : Halts text_operand s (λ r. AtPart IsText spot r)
  unfolding text_operand
  halts_text_operand = halts_map bytes (part_text s spot here)

-- ---- operands that leave something for later ones

module _ (s : State) (spot : Spot) (here : StandsAt s spot) (earlier : Earlier) where
  pub halts_scope_name : Halts (scope_name spot.scope earlier) s (λ r. AtResolved spot r)
  unfolding scope_name
  halts_scope_name = halts_resolved s spot _ here (λ n path s1. halts_look _ _ (halts_give _))

  pub halts_alias_source : Halts (alias_source spot.scope earlier) s (λ r. AtResolved spot r)
  unfolding alias_source
  halts_alias_source = halts_resolved s spot _ here (λ n path s1. halts_look _ _ (halts_give _))

  pub halts_external_name : Halts (external_name spot.scope earlier) s (λ r. AtResolved spot r)
  unfolding external_name
  halts_external_name = halts_resolved s spot _ here (λ n path s1. halts_give _)

  pub halts_declared_name : (context : Context) (start count : ℕ) → context.body ≡ spot.around.body → Halts (declared_name spot.scope context start count earlier) s (λ r. AtDeclared start spot r)
  unfolding declared_name
  halts_declared_name context start count body = halts_then (halts_more (refuses_name s spot here) (part_declared start spot)) (λ n s1 e.
      let t = name_at s s1 spot n here e in
      halts_settle (declared_path spot.scope context start n) _ (λ r is. declined_at start spot n r t.0 (subst (λ (b : Bool). Declined b start n spot.scope r) body (why_declined spot.scope context start n r t.1 is)))
      (λ path is. halts_then (halts_declare context path count false s1 (λ r. AtDeclared start spot r)) (λ added s2 f. halts_give _)))

  pub halts_object_type : Halts (object_type earlier) s (λ r. AtPart (IsNumber 1) spot r)
  unfolding object_type
  halts_object_type = halts_one s spot here _ (λ n s1. halts_give _)

  pub halts_method_flags : (context : Context) → Halts (method_flags context earlier) s (λ r. AtPart (IsNumber 1) spot r)
  unfolding method_flags
  halts_method_flags context = halts_one s spot here _ (λ n s1. halts_then (halts_declare_earlier context earlier.path (n % 8) false s1 (λ r. AtPart (IsNumber 1) spot r)) (λ added s2 e. halts_give _))

  pub halts_argument_count : (context : Context) → Halts (argument_count context earlier) s (λ r. AtPart (IsNumber 1) spot r)
  unfolding argument_count
  halts_argument_count context = halts_one s spot here _ (λ n s1. halts_then (halts_declare_earlier context earlier.path (if earlier.count == 8 then n else 0) true s1 (λ r. AtPart (IsNumber 1) spot r)) (λ added s2 e. halts_give _))

-- ---- bytes

all_never : (s : State) (F : Refusal → Type 0) → Halts all_bytes s F
unfolding all_bytes
all_never s F = record { is = λ r s2 e. absurd (went_on e) }

pub halts_bytes_operand : (s : State) (F : Refusal → Type 0) → Halts bytes_operand s F
unfolding bytes_operand
halts_bytes_operand s F = halts_map bytes (all_never s F)
