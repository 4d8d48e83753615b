-- References are followed one after another, and at most so many.
use Rattle.std.specs.Prelude.{◌≡◌, ℕ, zero, suc, ◌-◌, ◌<◌, Err, refl}
use Rattle.std.proofs.Common.{arith, ◌∙◌, sub-one}
use Rattle.ar_space.specs.declared.refusal.Refusal.TheVariants as refusal
use Rattle.ar_space.specs.declared.refusal.EvaluationFault.TheVariants.{DeadReference}
use Rattle.ar_space.specs.Outcome.{Outcome}
use Rattle.ar_space.specs.Change.{Change, Does, stop}
use Rattle.ar_space.proofs.Changes.{changing}
use Rattle.aml_objects.specs.declared.value.Value.{Value}
use Rattle.aml_objects.specs.declared.value.Reference.{Reference}
use Rattle.aml_world.specs.declared.values.object_type.Referent.{Referent}
use Rattle.aml_world.specs.declared.values.store_target.Stored.{Stored}
use Rattle.aml_world.specs.state.State.{State}
use Rattle.aml_world.specs.values.StoreTargets.{followed, reference_followed}
use Rattle.aml_world.specs.values.Stores.{stored_through, store_at_reference}

followed_is : {S : Type 0} (n : ℕ) (x : Reference) (w : State S) → 0 < n → followed n x w ≡ reference_followed (followed (n - 1)) x w
unfolding followed
followed_is zero x w l = absurd (omega arith)
followed_is (suc n) x w l = rw sub-one refl

followed_none : {S : Type 0} (n : ℕ) (x : Reference) (w : State S) → n ≡ 0 → followed n x w ≡ (Err (refusal.Evaluation DeadReference), w)
unfolding followed stop
followed_none n x w e = rw e refl

pub does_followed : {S : Type 0} {r : Outcome Referent} {w1 : State S} (n : ℕ) (x : Reference) (w : State S) → 0 < n → Does r w1 (reference_followed (followed (n - 1)) x) w → Does r w1 (followed n x) w
does_followed n x w l h = record { is = λ ne. followed_is n x w l ∙ h.is ne }

pub does_not_followed : {S : Type 0} (n : ℕ) (x : Reference) {w : State S} → n ≡ 0 → Does (Err (refusal.Evaluation DeadReference)) w (followed n x) w
does_not_followed n x {w} e = record { is = λ _. followed_none n x w e }

through_is : {S : Type 0} (n : ℕ) (x : Reference) (v : Value) (w : State S) → 0 < n → stored_through n x v w ≡ store_at_reference (stored_through (n - 1)) x v w
unfolding stored_through
through_is zero x v w l = absurd (omega arith)
through_is (suc n) x v w l = rw sub-one refl

through_none : {S : Type 0} (n : ℕ) (x : Reference) (v : Value) (w : State S) → n ≡ 0 → stored_through n x v w ≡ (Err (refusal.Evaluation DeadReference), w)
unfolding stored_through stop
through_none n x v w e = rw e refl

pub does_through : {S : Type 0} {r : Outcome Stored} {w1 : State S} (n : ℕ) (x : Reference) (v : Value) (w : State S) → 0 < n → Does r w1 (store_at_reference (stored_through (n - 1)) x v) w → Does r w1 (stored_through n x v) w
does_through n x v w l h = record { is = λ ne. through_is n x v w l ∙ h.is ne }

pub does_not_through : {S : Type 0} (n : ℕ) (x : Reference) (v : Value) {w : State S} → n ≡ 0 → Does (Err (refusal.Evaluation DeadReference)) w (stored_through n x v) w
does_not_through n x v {w} e = record { is = λ _. through_none n x v w e }

pub ruleset following = (changing, does_followed, does_not_followed, does_through, does_not_through)
