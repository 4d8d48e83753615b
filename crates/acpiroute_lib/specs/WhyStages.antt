-- At which stage a run is refused: which table, which call of initializing, which object. Each is refused in the world that what comes
-- before it leaves.
use Rattle.std.specs.Prelude.{◌≡◌, ◌≢◌, ◌⊎◌, ℕ, List, Option, Some, None, Ok, Err}
use Rattle.ar_space.specs.Accesses.{Accesses}
use Rattle.ar_space.specs.Outcome.{Outcome}
use Rattle.ar_space.specs.declared.refusal.Refusal.{Refusal}
use Rattle.ar_space.specs.declared.refusal.Refusal.TheVariants.{OutOfMemory}
use Rattle.ar_tables.specs.declared.tables.Tables.{Tables}
use Rattle.aml_path.specs.declared.segment.Seg.{Seg}
use Rattle.aml_path.specs.Text.{path_of_text}
use Rattle.aml_world.specs.state.State.{State}
use Rattle.acpi_machine.specs.Calls.{initialized}
use Rattle.acpi_machine.specs.Loading.{few_texts}
use Rattle.acpi_machine.specs.MachineStates.{MachineState, machine_of}
use Rattle.acpi_links.specs.Gatherings.{Gathering}
use Rattle.acpi_explain.specs.Stages.{IsTableRefused, IsCallRefused, IsStageBy, IsNotRefused, IsOfNoObject}
use Rattle.acpi_explain.specs.declared.stage.Stage.{Stage}
use Rattle.acpi_explain.specs.declared.stage.Stage.TheVariants as stages
use Rattle.acpi_explain.specs.declared.told.Phase.{Phase}
use Rattle.acpi_explain.specs.declared.told.Phase.TheVariants as phases
use Rattle.acpiroute_shell.specs.declared.request.Asking.{Asking}
use Rattle.acpiroute_shell.specs.declared.request.Question.{Question}
use Rattle.acpiroute_shell.specs.declared.request.Question.TheVariants.{Route, Eval}
use Rattle.acpiroute_lib.specs.RunEnds.{loaded_over, run_of}
use Rattle.acpiroute_lib.specs.declared.run_end.RunEnd.{RunEnd}
use Rattle.acpiroute_lib.specs.declared.run_end.RunEnd.TheVariants.{Refused, Done}

-- ---- how far a run comes that is refused

-- where the text of a path is refused no object is asked
abbrev pub named_phase : Outcome (List Seg) → Option Phase
named_phase (Ok p) = Some phases.Running
named_phase (Err e) = None

abbrev pub asked_phase : Question → Option Phase
asked_phase (Route avoid flags) = Some phases.Running
asked_phase (Eval path arguments) = named_phase (path_of_text path)

-- by what came of initializing
abbrev pub started_phase : Option Phase → Outcome (Unit {0}) → Option Phase
started_phase asked (Ok u) = asked
started_phase asked (Err e) = Some phases.Initializing

-- the phase in which a run was refused is told so; memory may run out at any place
abbrev pub IsPhase : Option Phase → RunEnd → Type 0
IsPhase phase (Refused told e) = e ≢ OutOfMemory → told ≡ phase
IsPhase phase (Done report) = Unit {0}

-- ---- the stage of what is asked

-- the object at the path of a text, if that is one
abbrev pub IsNamedStage : Outcome (List Seg) → Option Stage → Type 0
IsNamedStage (Ok p) stage = stage ≡ Some (stages.Reading p)
IsNamedStage (Err e) stage = stage ≡ None

-- accesses: what the register space makes of them
module _ {S : Type 0} (accesses : Accesses S) where
  abbrev pub machine_phase : Asking → MachineState S → Option Phase
  machine_phase q m = started_phase (asked_phase q.question) (initialized accesses q.mode m).0

  -- by what came of loading
  abbrev pub loaded_phase : Asking → Tables → Outcome (Unit {0}) → State S → Option Phase
  loaded_phase q t (Ok u) w = machine_phase q (machine_of t q.evaluation.steps w)
  loaded_phase q t (Err e) w = Some phases.Loading

  -- where no tables are found nothing has a part in it
  abbrev pub run_phase : Asking → Outcome Tables → List (List ℕ) → S → Option Phase
  run_phase q (Ok t) osi before = let l = loaded_over accesses q t osi before in loaded_phase q t l.0 l.1
  run_phase q (Err e) osi before = None

  -- ---- the stage

  -- this table is refused by e; or `_OSI` is to know too many texts, and no table is loaded
  abbrev pub IsLoadingStage : Asking → Tables → List (List ℕ) → S → Refusal → Option Stage → Type 0
  IsLoadingStage q t osi before e stage =
      ((n : ℕ) × (stage ≡ Some (stages.Loading n)) × (h : IsTableRefused accesses q.evaluation.settings t q.evaluation.steps osi before n) × (h.refusal ≡ e))
      ⊎ ((stage ≡ None) × (few_texts osi ≢ Ok tt))

  -- this call of initializing is
  abbrev pub IsCallingStage : Asking → MachineState S → Refusal → Option Stage → Type 0
  IsCallingStage q m e stage = (path : List Seg) × (stage ≡ Some (stages.Calling path)) × (h : IsCallRefused accesses q.mode m path) × (h.refusal ≡ e)

  -- this routing table or this object of a link is, or what they say together; or, where other devices are spared, gathering isn't refused
  -- and what is left for a link then is
  abbrev pub IsRoutingStage : List ℕ → MachineState S → Refusal → Stage → Type 0
  IsRoutingStage avoid ready e stage = IsStageBy accesses avoid ready stage e ⊎ (IsNotRefused accesses avoid ready stage × IsOfNoObject {A = Gathering} (Err e))

  abbrev pub IsAskedStage : Question → MachineState S → Refusal → Option Stage → Type 0
  IsAskedStage (Route avoid flags) ready e stage = (s : Stage) × (stage ≡ Some s) × IsRoutingStage avoid ready e s
  IsAskedStage (Eval path arguments) ready e stage = IsNamedStage (path_of_text path) stage

  -- by what came of initializing a machine, which left it so
  abbrev pub IsStartedStage : Asking → MachineState S → Outcome (Unit {0}) → MachineState S → Refusal → Option Stage → Type 0
  IsStartedStage q m (Ok u) ready e stage = IsAskedStage q.question ready e stage
  IsStartedStage q m (Err x) ready e stage = IsCallingStage q m e stage

  abbrev pub IsMachineStage : Asking → MachineState S → Refusal → Option Stage → Type 0
  IsMachineStage q m e stage = let i = initialized accesses q.mode m in IsStartedStage q m i.0 i.1 e stage

  -- by what came of loading, which left this world
  abbrev pub IsLoadedStage : Asking → Tables → List (List ℕ) → S → Outcome (Unit {0}) → State S → Refusal → Option Stage → Type 0
  IsLoadedStage q t osi before (Ok u) w e stage = IsMachineStage q (machine_of t q.evaluation.steps w) e stage
  IsLoadedStage q t osi before (Err x) w e stage = IsLoadingStage q t osi before e stage

  -- The stage at which the run over these tables is refused by e: what is told of it is refused by e there.
  abbrev pub IsStageOf : Asking → Outcome Tables → List (List ℕ) → S → Refusal → Option Stage → Type 0
  IsStageOf q (Ok t) osi before e stage = let l = loaded_over accesses q t osi before in IsLoadedStage q t osi before l.0 l.1 e stage
  IsStageOf q (Err x) osi before e stage = stage ≡ None

  -- the same of a run that is refused, of which the phase is known
  abbrev pub IsStageIn : Option Phase → Asking → Outcome Tables → List (List ℕ) → S → Option Stage → Type 0
  IsStageIn phase q tables osi before stage =
      (e : Refusal) (left : S) → phase ≡ run_phase q tables osi before → run_of accesses q tables osi before ≡ (Err e, left) → IsStageOf q tables osi before e stage
