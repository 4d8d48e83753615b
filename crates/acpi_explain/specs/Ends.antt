-- How a run of a machine ended whose tables are loaded: where it was refused, by what, and the machine then.
use Rattle.std.specs.Prelude.{◌≡◌, ◌≢◌, List, Some, None, Ok, Err}
use Rattle.ar_space.specs.Accesses.{Accesses}
use Rattle.ar_space.specs.declared.refusal.Refusal.{Refusal}
use Rattle.ar_space.specs.declared.refusal.Refusal.TheVariants.{OutOfMemory}
use Rattle.ar_tables.specs.declared.mode.Mode.{Mode}
use Rattle.aml_path.specs.declared.segment.Seg.{Seg}
use Rattle.aml_world.specs.state.Given.{Given}
use Rattle.acpi_machine.specs.Calls.{initialized, evaluated_object}
use Rattle.acpi_machine.specs.MachineStates.{MachineState, sci_of}
use Rattle.acpi_configure.specs.Options.{RunOptions}
use Rattle.acpi_configure.specs.ForKernels.{IsReportFor}
use Rattle.acpi_configure.specs.WithOptions.{found_by}
use Rattle.acpi_explain.specs.declared.end.End.{End}
use Rattle.acpi_explain.specs.declared.end.End.TheVariants.{Initializing, Running, Done}

-- accesses: what the register space makes of them; before and after: the machine as it was loaded, and as the run left it
module _ {S : Type 0} (accesses : Accesses S) (mode : Mode) where
  -- the machine was initialized, and is this one then
  abbrev pub IsReady : MachineState S → MachineState S → Type 0
  IsReady before ready = initialized accesses mode before ≡ (Ok tt, ready)

  -- memory may run out at any place
  abbrev pub IsStopped : MachineState S → MachineState S → Refusal → Type 0
  IsStopped before after e = e ≢ OutOfMemory → initialized accesses mode before ≡ (Err e, after)

  -- what a run that routes finds is refused, or it has this report
  abbrev pub IsRouteEnd : RunOptions → MachineState S → MachineState S → End → Type 0
  IsRouteEnd o before after (Initializing e) = IsStopped before after e
  IsRouteEnd o before after (Running e) = e ≢ OutOfMemory → (ready : MachineState S) × (IsReady before ready × (found_by accesses o (sci_of ready) ready ≡ (Err e, after)))
  IsRouteEnd o before after (Done (Some report)) = (ready : MachineState S) × (IsReady before ready × IsReportFor accesses o ready after report)
  IsRouteEnd o before after (Done None) = ⊥

  -- the evaluation is refused, or answers a value
  abbrev pub IsEvalEnd : List Seg → List Given → MachineState S → MachineState S → End → Type 0
  IsEvalEnd path arguments before after (Initializing e) = IsStopped before after e
  IsEvalEnd path arguments before after (Running e) = e ≢ OutOfMemory → (ready : MachineState S) × (IsReady before ready × (evaluated_object accesses path arguments ready ≡ (Err e, after)))
  IsEvalEnd path arguments before after (Done (Some report)) = ⊥
  IsEvalEnd path arguments before after (Done None) = (ready : MachineState S) × (IsReady before ready × ((value : Given) × (evaluated_object accesses path arguments ready ≡ (Ok value, after))))
