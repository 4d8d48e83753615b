-- Chains of `?` over a world and its steps that read its objects, or end in a call on a part of it that is lent.
use Rattle.std.specs.Prelude.{◌≡◌, ℕ, Ok, Err, IsErr, IsErrAnd}
use Rattle.ar_space.specs.declared.refusal.Refusal.{Refusal}
use Rattle.ar_space.specs.Outcome.{Outcome, seen}
use Rattle.ar_space.specs.Change.{Change, Does, ◌>>=◌}
use Rattle.aml_objects.specs.Objects.{Objects}
use Rattle.aml_world.specs.state.State.{State, on_objects}
use Rattle.aml_world.specs.state.Run.{Run, lift}
use Rattle.aml_world.proofs.Lifted.{objects_seen, parts}
use Rattle.aml_meaning.proofs.Runs.{lift_ok, lift_err, lift_seen_err}

module _ {S A B : Type 0} {w : State S} (b : ℕ) (o : Objects) (m : Change Objects A) where
  pub lent_ok : {a : A} {r : Outcome B} {s : State S × ℕ} (k : A → Run S B) → Does (Ok a) o m o → o ≡ w.objects → Does r s (k a) (w, b) → Does r s (lift (on_objects m) >>= k) (w, b)
  lent_ok k h is i = lift_ok b (on_objects m) k (objects_seen o m w h is) i

  pub lent_err : {e : Refusal} {r : Outcome B} (k : A → Run S B) → Does {A = A} (Err e) o m o → o ≡ w.objects → IsErr r × IsErrAnd r (λ x. x ≡ e) → Does r (w, b) (lift (on_objects m) >>= k) (w, b)
  lent_err k h is i = lift_err b (on_objects m) k (objects_seen o m w h is) i

  pub lent_seen_err : {C : Type 0} {e : Refusal} (r : Outcome B) (view : B → C) (k : A → Run S C) → Does {A = A} (Err e) o m o → o ≡ w.objects → IsErr r × IsErrAnd r (λ x. x ≡ e) → Does (seen view r) (w, b) (lift (on_objects m) >>= k) (w, b)
  lent_seen_err r view k h is i = lift_seen_err r view b (on_objects m) k (objects_seen o m w h is) i

pub ruleset lent = (parts, objects_seen, lent_ok, lent_err, lent_seen_err)
