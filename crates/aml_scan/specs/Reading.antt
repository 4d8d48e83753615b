-- What a call reads, and how far its reader moves.
use Rattle.std.specs.Prelude.{◌≤◌, ◌<◌, length, OnOk}
use Rattle.ar_space.specs.Outcome.{Outcome, NotMemory}
use Rattle.ar_space.specs.Change.{Does}
use Rattle.aml_grammar.specs.State.{State, Step}

-- it reads what the grammar's step reads, and doesn't move back
pub record Reads {A : Type 0} (r : Outcome A) (after : State) (step : Step A) (before : State) : Type 0 where
  pub reads : Does r after step before
  pub kept : OnOk r (length after.rest ≤ length before.rest)

-- it reads what the grammar's step reads, and moves on
pub record MovesOn {A : Type 0} (r : Outcome A) (after : State) (step : Step A) (before : State) : Type 0 where
  pub reads : Does r after step before
  pub shorter : OnOk r (length after.rest < length before.rest)

-- the same, and it takes no memory
pub record MovesOnInPlace {A : Type 0} (r : Outcome A) (after : State) (step : Step A) (before : State) : Type 0 where
  pub reads : Does r after step before
  pub shorter : OnOk r (length after.rest < length before.rest)
  pub memory : NotMemory r
