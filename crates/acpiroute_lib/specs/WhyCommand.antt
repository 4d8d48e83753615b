-- What `why` answers.
use Rattle.std.specs.Prelude.{◌≡◌, ◌≢◌, ℕ, List, ◌++◌, Option, None, Ok, Err, codes}
use Rattle.ar_space.specs.Bytes.{Bytes, byte_accesses}
use Rattle.ar_space.specs.Outcome.{Outcome}
use Rattle.ar_space.specs.declared.refusal.Refusal.{Refusal}
use Rattle.ar_space.specs.declared.refusal.Refusal.TheVariants.{OutOfMemory}
use Rattle.ar_space.specs.declared.space.Place.{Place}
use Rattle.ar_tables.specs.declared.tables.Tables.{Tables}
use Rattle.ar_tables.specs.FindTables.{tables_of}
use Rattle.machine_text.specs.MachineText.{machine_text}
use Rattle.machine_text.specs.declared.machine_lines.MachineText.{MachineText}
use Rattle.acpi_explain.specs.Explaining.{IsExplanation}
use Rattle.acpi_explain.specs.Told.{shown_access}
use Rattle.acpi_explain.specs.declared.explanation.Explanation.{Explanation}
use Rattle.acpi_explain.specs.declared.stage.Stage.{Stage}
use Rattle.acpi_explain.specs.declared.told.Phase.{Phase}
use Rattle.watched_space.specs.Filling.{Filled, filled}
use Rattle.watched_space.specs.Metering.{Meter, metered}
use Rattle.watched_space.specs.MissingPlaces.{no_missing, missing_places}
use Rattle.watched_space.specs.Watching.{Watch, watched}
use Rattle.watched_space.specs.declared.last_access.Accessed.{Accessed}
use Rattle.acpiroute_shell.specs.ErrorLines.{error_line}
use Rattle.acpiroute_shell.specs.Written.{Written}
use Rattle.acpiroute_shell.specs.declared.completion.Completion.TheVariants.{Done}
use Rattle.acpi_machine.specs.MachineStates.{MachineState}
use Rattle.acpiroute_lib.specs.RunEnds.{IsMachineEnd, IsEnd}
use Rattle.acpiroute_lib.specs.LinksAsked.{AreLinksIn}
use Rattle.acpiroute_lib.specs.Machines.{Registers, register_accesses, registers_of}
use Rattle.acpiroute_lib.specs.MissingLines.{missing_lines}
use Rattle.acpiroute_lib.specs.WhyStages.{machine_phase, run_phase, IsPhase, IsStageOf, IsStageIn}
use Rattle.acpiroute_shell.specs.declared.request.Asking.{Asking}
use Rattle.acpiroute_shell.specs.declared.request.Evaluation.{Evaluation}
use Rattle.acpiroute_lib.specs.declared.run_end.RunEnd.{RunEnd}
use Rattle.acpiroute_lib.specs.declared.run_end.RunEnd.TheVariants as end

abbrev pub told : List ℕ → Written
told text = record { text = text; completion = Done }

-- ---- what ended a run

-- the registers of a run, to which no access is made yet
abbrev pub first_watch : Evaluation → Bytes → Watch Registers
first_watch evaluation space = record { inner = registers_of evaluation space; last = None }

-- a machine whose tables are loaded, and the last access once it was asked
pub record IsWatchedMachine (q : Asking) (m : MachineState (Watch Registers)) (ended : RunEnd) (last : Option Accessed) : Type 0 where
  pub after : MachineState (Watch Registers)
  pub is_end : IsMachineEnd (watched register_accesses) q ended m after
  pub is_phase : IsPhase (machine_phase (watched register_accesses) q m) ended
  pub is_last : after.world.space.last ≡ last

-- A run over the bytes of a machine text, and its last access. It is the run that the request asks for: the space that keeps the last
-- access does what the bytes do.
pub record IsWatched (q : Asking) (tables : Outcome Tables) (osi : List (List ℕ)) (space : Bytes) (ended : RunEnd) (last : Option Accessed) : Type 0 where
  pub left : Watch Registers
  pub is_end : IsEnd (watched register_accesses) q ended tables osi (first_watch q.evaluation space) left
  pub is_phase : IsPhase (run_phase (watched register_accesses) q tables osi (first_watch q.evaluation space)) ended
  pub is_last : left.last ≡ last

-- the stage at which the run over a machine text is refused, if it is refused in this phase
abbrev pub IsStageFound : Asking → Option Phase → List ℕ → Option Stage → Type 0
IsStageFound q phase text stage = (said : MachineText) → machine_text text ≡ Ok said
    → IsStageIn (watched register_accesses) phase q (tables_of said.space.memory said.rsdp) said.osi (first_watch q.evaluation said.space) stage

-- the lines of links in the run over a machine text, if it is not refused
abbrev pub AreLinksFound : Asking → List ℕ → List ℕ → Type 0
AreLinksFound q text lines = (said : MachineText) → machine_text text ≡ Ok said
    → AreLinksIn register_accesses q (tables_of said.space.memory said.rsdp) said.osi (first_watch q.evaluation said.space) lines

-- that a run isn't refused, and behind that lines of which this holds
pub record IsDoneTold (AreIt : List ℕ → Type 0) (w : Written) : Type 0 where
  pub lines : List ℕ
  pub are_lines : AreIt lines
  pub is : w ≡ told (codes "not refused\n" ++ lines)

-- The text of an explanation of the refusal of the run, with a stage of which this holds, where so many steps might be taken.
pub record IsRefusalTold (steps : ℕ) (IsIt : Option Stage → Type 0) (e : Refusal) (access : Option Accessed) (w : Written) : Type 0 where
  pub stage : Option Stage
  pub is_stage : IsIt stage
  pub explanation : Explanation
  pub is_explanation : IsExplanation e stage access steps explanation
  pub is : w ≡ told explanation.text.items

-- the lines of how a run ended, with a stage and lines of links of which this holds; want of memory is told in none
abbrev pub IsExplained : ℕ → (Option Phase → Refusal → Option Stage → Type 0) → (List ℕ → Type 0) → RunEnd → Option Accessed → Written → Type 0
IsExplained steps IsIt AreIt (end.Refused phase e) last w = (e ≢ OutOfMemory) × IsRefusalTold steps (IsIt phase e) e (shown_access e last) w
IsExplained steps IsIt AreIt (end.Done report) last w = IsDoneTold AreIt w

-- What is told: where the run is refused, the stage of just this run, at which it is refused so; else the links that just this run doesn't
-- set as they were to be.
pub record IsWhy (q : Asking) (said : MachineText) (w : Written) : Type 0 where
  pub ended : RunEnd
  pub last : Option Accessed
  pub is_run : IsWatched q (tables_of said.space.memory said.rsdp) said.osi said.space ended last
  pub is_explained : IsExplained q.evaluation.steps (λ phase e. IsStageOf (watched register_accesses) q (tables_of said.space.memory said.rsdp) said.osi (first_watch q.evaluation said.space) e)
      (AreLinksIn register_accesses q (tables_of said.space.memory said.rsdp) said.osi (first_watch q.evaluation said.space)) ended last w

-- ---- which registers are missing

-- the bytes of a machine text, none of which is missing yet; accesses are bounded as in the run without 0 in place of missing ones
abbrev pub first_filled : Evaluation → Bytes → Meter (Filled Bytes)
first_filled evaluation space = record { inner = record { inner = space; missing = no_missing }; left = evaluation.accesses }

-- a machine whose tables are loaded, and the places that are missing once it was asked
pub record IsFilledMachine (q : Asking) (m : MachineState (Meter (Filled Bytes))) (ended : RunEnd) (places : List Place) : Type 0 where
  pub after : MachineState (Meter (Filled Bytes))
  pub is_end : IsMachineEnd (metered (filled byte_accesses)) q ended m after
  pub are_places : missing_places after.world.space.inner.missing ≡ places

-- a run with 0 in place of each missing byte, from a register space that knows these to be missing, and the places of those that are then
pub record IsFilledFrom (q : Asking) (tables : Outcome Tables) (osi : List (List ℕ)) (before : Meter (Filled Bytes)) (ended : RunEnd) (places : List Place) : Type 0 where
  pub left : Meter (Filled Bytes)
  pub is_end : IsEnd (metered (filled byte_accesses)) q ended tables osi before left
  pub are_places : missing_places left.inner.missing ≡ places

-- such a run over the bytes of a machine text
abbrev pub IsFilled : Asking → Outcome Tables → List (List ℕ) → Bytes → RunEnd → List Place → Type 0
IsFilled q tables osi space ended places = IsFilledFrom q tables osi (first_filled q.evaluation space) ended places

-- the lines of all missing bytes, and how the run ended
abbrev pub IsListed : RunEnd → List Place → Written → Type 0
IsListed (end.Refused phase e) places w = (e ≢ OutOfMemory) × (w ≡ told (missing_lines places ++ (codes "# with 0 there: " ++ error_line e)))
IsListed (end.Done report) places w = w ≡ told (missing_lines places ++ codes "# with 0 there: not refused\n")

pub record IsRegisters (q : Asking) (said : MachineText) (w : Written) : Type 0 where
  pub ended : RunEnd
  pub places : List Place
  pub is_run : IsFilled q (tables_of said.space.memory said.rsdp) said.osi said.space ended places
  pub is_listed : IsListed ended places w

-- ---- the answers

-- what is answered over what a machine text says
pub record IsOver (text : List ℕ) (IsIt : MachineText → Type 0) : Type 0 where
  pub said : MachineText
  pub is_said : machine_text text ≡ Ok said
  pub is : IsIt said

-- what `why` answers over a machine text: only the text itself is refused
abbrev pub IsWhyAnswer : Asking → List ℕ → Outcome Written → Type 0
IsWhyAnswer q text (Ok w) = IsOver text (λ said. IsWhy q said w)
IsWhyAnswer q text (Err e) = machine_text text ≡ Err e

abbrev pub IsRegistersAnswer : Asking → List ℕ → Outcome Written → Type 0
IsRegistersAnswer q text (Ok w) = IsOver text (λ said. IsRegisters q said w)
IsRegistersAnswer q text (Err e) = machine_text text ≡ Err e
