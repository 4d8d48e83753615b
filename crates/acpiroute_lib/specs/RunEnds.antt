-- A run over any register space: what refuses it, or its report.
use Rattle.std.specs.Prelude.{◌≡◌, ◌≢◌, ℕ, List, Option, Some, None, map, Ok, Err}
use Rattle.ar_space.specs.Accesses.{Accesses}
use Rattle.ar_space.specs.Change.{Change, settle, ◌>>=◌, ◌>>◌}
use Rattle.ar_space.specs.Outcome.{Outcome, seen}
use Rattle.ar_space.specs.declared.refusal.Refusal.{Refusal}
use Rattle.ar_space.specs.declared.refusal.Refusal.TheVariants.{OutOfMemory}
use Rattle.ar_tables.specs.declared.mode.Mode.{Mode}
use Rattle.ar_tables.specs.declared.tables.Tables.{Tables}
use Rattle.aml_path.specs.declared.segment.Seg.{Seg}
use Rattle.aml_path.specs.Text.{path_of_text}
use Rattle.aml_world.specs.state.Given.{Given}
use Rattle.aml_world.specs.state.Predefined.{fresh_as}
use Rattle.aml_world.specs.state.State.{State}
use Rattle.acpi_machine.specs.Calls.{initialized, evaluated_object}
use Rattle.acpi_machine.specs.Loading.{loaded_tables}
use Rattle.acpi_machine.specs.MachineStates.{MachineState, machine_of, sci_of}
use Rattle.acpi_configure.specs.Options.{RunOptions}
use Rattle.acpi_configure.specs.ForKernels.{IsReportFor}
use Rattle.acpi_configure.specs.WithOptions.{Findings, found_by}
use Rattle.route_report.specs.Reports.{RoutingReport}
use Rattle.acpiroute_shell.specs.declared.arguments.Argument.{Argument}
use Rattle.acpiroute_lib.specs.EvalCommand.{given_argument}
use Rattle.acpiroute_shell.specs.declared.request.Asking.{Asking}
use Rattle.acpiroute_shell.specs.declared.request.Flags.{Flags}
use Rattle.acpiroute_shell.specs.declared.request.Question.{Question}
use Rattle.acpiroute_shell.specs.declared.request.Question.TheVariants.{Route, Eval}
use Rattle.acpiroute_lib.specs.declared.run_end.RunEnd.{RunEnd}
use Rattle.acpiroute_lib.specs.declared.run_end.RunEnd.TheVariants.{Refused, Done}

abbrev pub options_of : List ℕ → Flags → RunOptions
options_of avoid flags = record { dry = flags.dry; avoid = avoid; spare = flags.spare; spread = flags.spread; kernel = flags.kernel }

-- whether there is an answer, and not which
abbrev pub dropped : {S A : Type 0} → Outcome A × S → Outcome (Unit {0}) × S
dropped r = (seen (λ _. tt) r.0, r.1)

-- a machine over the world that loading left is asked, and its register space is left; a refusal of loading ends it
abbrev pub after_loading : {S : Type 0} → Change (MachineState S) (Unit {0}) → Tables → ℕ → Outcome (Unit {0}) → State S → Outcome (Unit {0}) × S
after_loading k t steps (Ok u) w = let r = k (machine_of t steps w) in (r.0, r.1.world.space)
after_loading k t steps (Err e) w = (Err e, w.space)

-- accesses: what the register space makes of them
module _ {S : Type 0} (accesses : Accesses S) where
  -- what `route` has to find in an initialized machine
  abbrev pub finds : RunOptions → Change (MachineState S) Findings
  finds o m = found_by accesses o (sci_of m) m

  -- what `eval` asks of one: the text of the path is looked at once it is initialized
  unfoldable pub evaluates : List ℕ → List Argument → Change (MachineState S) Given
  evaluates path arguments = do
    p ← settle (path_of_text path)
    evaluated_object accesses p (map given_argument arguments)

  abbrev pub asks : Question → Change (MachineState S) (Unit {0})
  asks (Route avoid flags) = λ m. dropped (finds (options_of avoid flags) m)
  asks (Eval path arguments) = λ m. dropped (evaluates path arguments m)

  -- a machine is initialized, and then asked
  abbrev pub started : Mode → Change (MachineState S) (Unit {0}) → Change (MachineState S) (Unit {0})
  started mode k = initialized accesses mode >> k

  -- tables are loaded over a register space, where `_OSI` knows these texts
  abbrev pub loaded_over : Asking → Tables → List (List ℕ) → S → Outcome (Unit {0}) × State S
  loaded_over q t osi before = loaded_tables accesses t q.evaluation.steps osi (fresh_as q.evaluation.settings t.width osi before)

  -- The run of `route`, or of `eval`: tables are found and loaded, the machine is initialized, and then asked. The first refusal ends it.
  -- It leaves the register space as its accesses made it.
  abbrev pub run_of : Asking → Outcome Tables → List (List ℕ) → S → Outcome (Unit {0}) × S
  run_of q (Ok t) osi before = let l = loaded_over q t osi before in after_loading (started q.mode (asks q.question)) t q.evaluation.steps l.0 l.1
  run_of q (Err e) osi before = (Err e, before)

  -- ---- how such a run ends

  -- a machine as it was loaded, and as the run left it; memory may run out at any place
  abbrev pub IsRefused : Mode → Change (MachineState S) (Unit {0}) → Refusal → MachineState S → MachineState S → Type 0
  IsRefused mode k e m after = e ≢ OutOfMemory → started mode k m ≡ (Err e, after)

  -- the run of `route` has a report where it is not refused
  abbrev pub IsRouted : Mode → RunOptions → RunEnd → MachineState S → MachineState S → Type 0
  IsRouted mode o (Refused phase e) m after = IsRefused mode (λ s. dropped (finds o s)) e m after
  IsRouted mode o (Done None) m after = ⊥
  IsRouted mode o (Done (Some report)) m after = (ready : MachineState S) × ((initialized accesses mode m ≡ (Ok tt, ready)) × IsReportFor accesses o ready after report)

  abbrev pub IsAskedBy : Mode → Change (MachineState S) (Unit {0}) → RunEnd → MachineState S → MachineState S → Type 0
  IsAskedBy mode k (Refused phase e) m after = IsRefused mode k e m after
  IsAskedBy mode k (Done None) m after = started mode k m ≡ (Ok tt, after)
  IsAskedBy mode k (Done (Some report)) m after = ⊥

  abbrev pub IsEvaluatedAt : Mode → List Seg → List Given → RunEnd → MachineState S → MachineState S → Type 0
  IsEvaluatedAt mode p arguments end m after = IsAskedBy mode (λ s. dropped (evaluated_object accesses p arguments s)) end m after

  abbrev pub IsEvaluated : Mode → List ℕ → List Argument → RunEnd → MachineState S → MachineState S → Type 0
  IsEvaluated mode path arguments end m after = IsAskedBy mode (λ s. dropped (evaluates path arguments s)) end m after

  -- a refusal that comes once the machine is initialized
  abbrev pub IsUnnamed : Mode → Refusal → RunEnd → MachineState S → MachineState S → Type 0
  IsUnnamed mode x end m after = IsAskedBy mode (λ s. (Err x, s)) end m after

  abbrev pub IsQuestionEnd : Mode → Question → RunEnd → MachineState S → MachineState S → Type 0
  IsQuestionEnd mode (Route avoid flags) end m after = IsRouted mode (options_of avoid flags) end m after
  IsQuestionEnd mode (Eval path arguments) end m after = IsEvaluated mode path arguments end m after

  abbrev pub IsMachineEnd : Asking → RunEnd → MachineState S → MachineState S → Type 0
  IsMachineEnd q end m after = IsQuestionEnd q.mode q.question end m after

  -- tables, loaded over a register space; the space as the run left it
  pub record IsAnsweredOver (q : Asking) (report : Option RoutingReport) (t : Tables) (osi : List (List ℕ)) (before left : S) : Type 0 where
    pub loaded : State S
    pub is_loaded : loaded_over q t osi before ≡ (Ok tt, loaded)
    pub after : MachineState S
    pub ended : IsMachineEnd q (Done report) (machine_of t q.evaluation.steps loaded) after
    pub is_left : after.world.space ≡ left

  abbrev pub IsDone : Asking → Option RoutingReport → Outcome Tables → List (List ℕ) → S → S → Type 0
  IsDone q report (Ok t) osi before left = IsAnsweredOver q report t osi before left
  IsDone q report (Err e) osi before left = ⊥

  abbrev pub IsEnd : Asking → RunEnd → Outcome Tables → List (List ℕ) → S → S → Type 0
  IsEnd q (Refused phase e) tables osi before left = e ≢ OutOfMemory → run_of q tables osi before ≡ (Err e, left)
  IsEnd q (Done report) tables osi before left = IsDone q report tables osi before left
