-- Two meanings of parts, where so many steps are left or fewer.
use Rattle.std.specs.Prelude.{◌≡◌, ◌≤◌, ℕ}
use Rattle.aml_world.specs.state.State.{State}
use Rattle.aml_world.specs.state.Run.{Run}
use Rattle.aml_meaning.specs.declared.flow.Flow.{Flow}
use Rattle.aml_meaning.specs.Tasks.{Task}

-- they are the same there, and leave no more steps than they got
pub record SameUpTo {S : Type 0} (n : ℕ) (ev ew : Task → Run S Flow) : Type 0 where
  pub same : (t : Task) (s : State S × ℕ) → s.1 ≤ n → ev t s ≡ ew t s
  pub less : (t : Task) (s : State S × ℕ) → s.1 ≤ n → (ev t s).1.1 ≤ s.1
