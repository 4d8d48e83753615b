-- An evaluation over any register space: the tables of a machine are loaded over it, the machine is initialized, and an object answers.
use Rattle.std.specs.Prelude.{ℕ, List, [], Ok, Err}
use Rattle.ar_space.specs.Accesses.{Accesses}
use Rattle.ar_space.specs.Outcome.{Outcome}
use Rattle.ar_space.specs.Change.{Change, settle, ◌>>=◌, ◌>>◌}
use Rattle.ar_tables.specs.declared.tables.Tables.{Tables}
use Rattle.aml_path.specs.Text.{path_of_text}
use Rattle.aml_world.specs.state.Given.{Given}
use Rattle.aml_world.specs.state.State.{State}
use Rattle.acpi_machine.specs.Calls.{initialized, evaluated_object}
use Rattle.acpi_machine.specs.MachineStates.{MachineState, machine_of}
use Rattle.recorded_route.specs.declared.settings.Settings.{Settings}
use Rattle.recorded_route.specs.Runs.{Description, world_over}

-- accesses: what the register space makes of them; path and arguments: the text of the object's path, and what it is called with
module _ {S : Type 0} (accesses : Accesses S) (settings : Settings) (path : List ℕ) (arguments : List Given) where
  -- the machine is initialized; then the text of the path is read, and the object there answers
  unfoldable pub object_of : Change (MachineState S) Given
  object_of = do
    initialized accesses settings.mode
    p ← settle (path_of_text path)
    evaluated_object accesses p arguments

  -- the answer, and the register space that is left
  abbrev pub machine_answer : MachineState S → Outcome Given × S
  machine_answer m = let r = object_of m in (r.0, r.1.world.space)

  -- from a world as loading left it, whose refusal ends the evaluation
  abbrev pub loaded_answer : Tables → Outcome (Unit {0}) → State S → Outcome Given × S
  loaded_answer tables (Ok u) w = machine_answer (machine_of tables settings.steps w)
  loaded_answer tables (Err e) w = (Err e, w.space)

  abbrev pub answer_over : Description → S → Outcome Given × S
  answer_over d before = let l = world_over accesses settings [] d before in loaded_answer d.0 l.0 l.1

  -- An evaluation of what is described over a register space: how it comes out, and the space that it leaves. The refusal of the text or
  -- of its tables ends it.
  abbrev pub evaluation : Outcome Description → S → Outcome Given × S
  evaluation (Ok d) before = answer_over d before
  evaluation (Err e) before = (Err e, before)
