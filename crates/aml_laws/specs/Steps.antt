-- Evaluations that are given more steps.
use Rattle.std.specs.Prelude.{◌≡◌, ◌+◌, ℕ, Err}
use Rattle.ar_space.specs.declared.refusal.Refusal.TheVariants as refusal
use Rattle.ar_space.specs.declared.refusal.EvaluationFault.TheVariants.{OutOfSteps}
use Rattle.ar_space.specs.Outcome.{Outcome, seen}
use Rattle.aml_objects.specs.declared.value.Value.{Value}
use Rattle.aml_world.specs.state.State.{State}

-- a refusal for want of steps
abbrev pub IsOutOfSteps : {A : Type 0} → Outcome A → Type 0
IsOutOfSteps r = r ≡ Err (refusal.Evaluation OutOfSteps)

-- the same outcome and the same world, and so many more steps left
abbrev pub with_more_left : {S A : Type 0} → ℕ → Outcome A × (State S × ℕ) → Outcome A × (State S × ℕ)
with_more_left more r = (r.0, (r.1.0, r.1.1 + more))

-- the same of a value that is told with the steps that are left
abbrev pub value_with_more_left : {S : Type 0} → ℕ → Outcome (Value × ℕ) × State S → Outcome (Value × ℕ) × State S
value_with_more_left more r = (seen (λ v. (v.0, v.1 + more)) r.0, r.1)
