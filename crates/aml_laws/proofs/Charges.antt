-- A step: what it comes to by how many are left.
use Rattle.std.specs.Prelude.{◌≡◌, ℕ, zero, suc, Ok, Err, refl}
use Rattle.std.proofs.Common.{sub-one}
use Rattle.ar_space.specs.declared.refusal.Refusal.TheVariants as refusal
use Rattle.ar_space.specs.declared.refusal.EvaluationFault.TheVariants.{OutOfSteps}
use Rattle.aml_world.specs.state.State.{State}
use Rattle.aml_world.specs.state.Run.{charge}
use Rattle.aml_meaning.proofs.Agree.{not_zero}

pub charge_none : {S : Type 0} (w : State S) → charge (w, zero) ≡ (Err (refusal.Evaluation OutOfSteps), (w, zero))
unfolding charge
charge_none w = refl

pub charge_one : {S : Type 0} (w : State S) (b : ℕ) → charge (w, suc b) ≡ (Ok tt, (w, b))
unfolding charge
charge_one w b = rw (not_zero b, sub-one) refl

pub charge_space : {S : Type 0} (w : State S) (b : ℕ) → (charge (w, b)).1.0.space ≡ w.space
unfolding charge
charge_space w zero = refl
charge_space w (suc b) = rw (not_zero b) refl
