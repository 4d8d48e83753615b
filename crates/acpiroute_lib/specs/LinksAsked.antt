-- The lines of links in a run that isn't refused: a second run over the same registers tells them.
use Rattle.std.specs.Prelude.{◌≡◌, ⊤, ℕ, List, [], Ok, Err}
use Rattle.ar_space.specs.Accesses.{Accesses}
use Rattle.ar_space.specs.Outcome.{Outcome}
use Rattle.ar_tables.specs.declared.tables.Tables.{Tables}
use Rattle.aml_world.specs.state.State.{State}
use Rattle.acpi_machine.specs.Calls.{initialized}
use Rattle.acpi_machine.specs.MachineStates.{MachineState, machine_of, sci_of}
use Rattle.acpi_configure.specs.Options.{RunOptions}
use Rattle.acpi_configure.specs.WithOptions.{Findings, found_by}
use Rattle.acpi_explain.specs.LinkLines.{AreLinksExplained}
use Rattle.watched_space.specs.Watching.{Watch, watched}
use Rattle.acpiroute_shell.specs.declared.request.Asking.{Asking}
use Rattle.acpiroute_shell.specs.declared.request.Question.{Question}
use Rattle.acpiroute_shell.specs.declared.request.Question.TheVariants.{Route, Eval}
use Rattle.acpiroute_lib.specs.RunEnds.{options_of, loaded_over}

-- accesses: what the register space makes of them, below the one that keeps the last access
module _ {S : Type 0} (accesses : Accesses S) where
  -- those of an initialized machine, where what the run has to find isn't refused
  abbrev pub AreLinksOf : RunOptions → ℕ → MachineState (Watch S) → List ℕ → Type 0
  AreLinksOf o steps ready lines =
      (found : Findings) (after : MachineState (Watch S)) → found_by (watched accesses) o (sci_of ready) ready ≡ (Ok found, after) → (left : MachineState (Watch S)) × AreLinksExplained accesses steps o ready left lines

  -- `eval` sets no link
  abbrev pub AreLinksAsked : Question → ℕ → MachineState (Watch S) → List ℕ → Type 0
  AreLinksAsked (Route avoid flags) steps ready lines = AreLinksOf (options_of avoid flags) steps ready lines
  AreLinksAsked (Eval path arguments) steps ready lines = lines ≡ []

  -- a machine whose tables are loaded, where initializing it isn't refused
  abbrev pub AreLinksStarted : Asking → MachineState (Watch S) → List ℕ → Type 0
  AreLinksStarted q m lines = (ready : MachineState (Watch S)) → initialized (watched accesses) q.mode m ≡ (Ok tt, ready) → AreLinksAsked q.question q.evaluation.steps ready lines

  -- these tables, where loading them isn't refused
  abbrev pub AreLinksIn : Asking → Outcome Tables → List (List ℕ) → Watch S → List ℕ → Type 0
  AreLinksIn q (Ok t) osi before lines =
      (loaded : State (Watch S)) → loaded_over (watched accesses) q t osi before ≡ (Ok tt, loaded) → AreLinksStarted q (machine_of t q.evaluation.steps loaded) lines
  AreLinksIn q (Err e) osi before lines = ⊤
