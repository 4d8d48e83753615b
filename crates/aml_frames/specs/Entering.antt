-- A control method that is entered: its slots stand, and its body is evaluated next (ACPI 6.5, 5.5.2 and 20.2.5).
use Rattle.std.specs.Prelude.{◌≡◌, ℕ, Ok, Err}
use Rattle.ar_space.specs.Accesses.{Accesses}
use Rattle.ar_space.specs.Outcome.{Outcome, NotMemory}
use Rattle.ar_space.specs.Change.{stop}
use Rattle.aml_world.specs.state.State.{State}
use Rattle.aml_world.specs.state.Run.{Run}
use Rattle.aml_meaning.specs.declared.flow.Flow.{Flow}
use Rattle.aml_meaning.specs.Tasks.{Task}
use Rattle.aml_frames.specs.Places.{Site}
use Rattle.aml_frames.specs.Follow.{body_run}

module _ {S : Type 0} (accesses : Accesses S) (ev : Task → Run S Flow) where
  -- what is left of a call once its control method is entered
  abbrev pub entered_left : Outcome Site → Run S Flow
  entered_left (Ok b) = body_run accesses ev b
  entered_left (Err e) = stop e

  -- what the call does is what is left of it, unless memory ran out
  pub record Enters (r : Outcome Site) (after : State S × ℕ) (m : Run S Flow) (before : State S × ℕ) : Type 0 where
    pub is : NotMemory r → m before ≡ entered_left r after
