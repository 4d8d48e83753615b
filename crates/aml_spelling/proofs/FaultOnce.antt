-- At one place a part has at most one fault; and where it has that one, the step that reads the part refuses so.
use Rattle.std.proofs.Common.{◌≡◌, ℕ, Ok, Err, refl, ◌∙◌, sym, ap}
use Rattle.ar_space.specs.declared.refusal.Refusal.{Refusal}
use Rattle.ar_space.specs.declared.refusal.Refusal.TheVariants as refusals
use Rattle.ar_space.specs.declared.refusal.NameFault.TheVariants.{BadName}
use Rattle.ar_space.specs.declared.refusal.TermFault.TheVariants.{Truncated}
use Rattle.ar_space.specs.Outcome.{Outcome}
use Rattle.aml_grammar.specs.State.{State, Step}
use Rattle.aml_spelling.specs.Faults.{Sort, Spot, AtPart}
use Rattle.aml_spelling.proofs.Halts.{Halts}
use Rattle.aml_spelling.proofs.FaultSorts.{Apart, Whole, short_not_wrong, whole_not_short, whole_not_wrong}

pub part_once : (Is : Sort) (spot : Spot) (r q : Refusal) → AtPart Is spot r → AtPart Is spot q → r ≡ q
part_once Is spot (refusals.Term Truncated o) (refusals.Term Truncated p) h i = ap (λ (k : ℕ). refusals.Term Truncated k) (h.1 ∙ sym i.1)
part_once Is spot (refusals.Term Truncated o) (refusals.Name BadName) h i = absurd (short_not_wrong Is spot.rest h.0 i)
part_once Is spot (refusals.Term Truncated o) q h i = absurd i
part_once Is spot (refusals.Name BadName) (refusals.Term Truncated p) h i = absurd (short_not_wrong Is spot.rest i.0 h)
part_once Is spot (refusals.Name BadName) (refusals.Name BadName) h i = refl
part_once Is spot (refusals.Name BadName) q h i = absurd i
part_once Is spot r q h i = absurd h

pub whole_no_fault : (Is : Sort) → Apart Is → (spot : Spot) (r : Refusal) → Whole Is spot.rest → AtPart Is spot r → ⊥
whole_no_fault Is apart spot (refusals.Term Truncated o) w h = whole_not_short Is apart spot.rest w h.0
whole_no_fault Is apart spot (refusals.Name BadName) w h = whole_not_wrong Is apart spot.rest w h
whole_no_fault Is apart spot r w h = absurd h

refuses_as : {A : Type 0} (Is : Sort) → Apart Is → (m : Step A) (s : State) (spot : Spot) (p : Outcome A × State) → m s ≡ p → ((a : A) (s2 : State) → m s ≡ (Ok a, s2) → Whole Is spot.rest) → Halts m s (AtPart Is spot) → (r : Refusal) → AtPart Is spot r → (s2 : State) × (m s ≡ (Err r, s2))
refuses_as Is apart m s spot (Ok a, s2) is gave halts r h = absurd (whole_no_fault Is apart spot r (gave a s2 is) h)
refuses_as Is apart m s spot (Err q, s2) is gave halts r h = (s2, is ∙ ap (λ (x : Refusal). (Err x, s2)) (part_once Is spot q r (halts.is q s2 is) h))

-- what it gives is the part, and what it refuses is a fault of it: then it refuses each fault of it
pub refuses : {A : Type 0} (Is : Sort) → Apart Is → (m : Step A) (s : State) (spot : Spot) → ((a : A) (s2 : State) → m s ≡ (Ok a, s2) → Whole Is spot.rest) → Halts m s (AtPart Is spot) → (r : Refusal) → AtPart Is spot r → (s2 : State) × (m s ≡ (Err r, s2))
refuses Is apart m s spot gave halts r h = refuses_as Is apart m s spot (m s) refl gave halts r h
