-- Evaluation changes a world and spends a budget of steps.
use Rattle.std.specs.Prelude.{ℕ, ◌-◌, ◌==◌, Ok, Err, if◌then◌else◌}
use Rattle.ar_space.specs.declared.refusal.Refusal.TheVariants as refusal
use Rattle.ar_space.specs.declared.refusal.EvaluationFault.TheVariants.{OutOfSteps}
use Rattle.ar_space.specs.Change.{Change}
use Rattle.aml_world.specs.state.State.{State}

-- a change of a world and of the steps that are left
abbrev pub Run : Type 0 → Type 0 → Type 0
Run S A = Change (State S × ℕ) A

-- a change of the world costs nothing
unfoldable pub lift : {S A : Type 0} → Change (State S) A → Run S A
lift m s = ((m s.0).0, ((m s.0).1, s.1))

-- one step
unfoldable pub charge : {S : Type 0} → Run S (Unit {0})
charge s = if s.1 == 0 then (Err (refusal.Evaluation OutOfSteps), s) else (Ok tt, (s.0, s.1 - 1))
