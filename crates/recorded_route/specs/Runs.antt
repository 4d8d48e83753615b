-- A run over any register space: the tables of a machine are loaded over it, the machine is initialized, and its links are configured.
use Rattle.std.specs.Prelude.{◌≡◌, ◌+◌, ◌^◌, ◌==◌, ℕ, nat_le, false, List, [], ◌∷◌, length, Ok, Err, if◌then◌else◌}
use Rattle.std.specs.FinMap as map
use Rattle.std.specs.List.{slice_split}
use Rattle.std.specs.Ordering.{nat_cmp}
use Rattle.ar_space.specs.declared.refusal.Refusal.TheVariants.{Table}
use Rattle.ar_space.specs.declared.refusal.TableFault.TheVariants.{NotInImage}
use Rattle.ar_space.specs.Runs.{with_bytes}
use Rattle.ar_space.specs.Accesses.{Accesses}
use Rattle.ar_space.specs.Outcome.{Outcome, ◌>>=◌}
use Rattle.ar_tables.specs.declared.tables.Tables.{Tables}
use Rattle.ar_tables.specs.FindTables.{tables_of}
use Rattle.machine_text.specs.MachineText.{machine_text}
use Rattle.aml_world.specs.state.State.{State}
use Rattle.aml_world.specs.state.Predefined.{fresh_as}
use Rattle.acpi_machine.specs.Calls.{initialized}
use Rattle.acpi_machine.specs.Loading.{loaded_tables}
use Rattle.acpi_machine.specs.MachineStates.{MachineState, machine_of}
use Rattle.acpi_links.specs.Gatherings.{gathered}
use Rattle.acpi_configure.specs.ForKernels.{IsReportFor}
use Rattle.acpi_configure.specs.Options.{RunOptions}
use Rattle.route_report.specs.Reports.{RoutingReport}
use Rattle.recorded_route.specs.declared.description.TablePart.{TablePart}
use Rattle.recorded_route.specs.declared.settings.Settings.{Settings}

-- the tables of a machine, and the texts that `_OSI` knows
abbrev pub Description : Type 0
Description = Tables × List (List ℕ)

-- what a machine text describes beside its registers: its memory is the image of the tables
unfoldable pub described : List ℕ → Outcome Description
described text = do
  m ← machine_text text
  t ← tables_of m.space.memory m.rsdp
  Ok (t, m.osi)

-- ---- tables as they stand in memory

-- a part of memory lies below 2^64; a later part replaces an earlier one
unfoldable pub with_part : map.FinMap nat_cmp ℕ → TablePart → Outcome (map.FinMap nat_cmp ℕ)
with_part image part =
    if nat_le (part.address + length part.bytes.now) (2 ^ 64) then Ok (with_bytes image part.address part.bytes.now) else Err (Table NotInImage)

unfoldable pub with_parts : map.FinMap nat_cmp ℕ → List TablePart → Outcome (map.FinMap nat_cmp ℕ)
with_parts image [] = Ok image
with_parts image (part ∷ parts) = do
  next ← with_part image part
  with_parts next parts

-- texts are parted by single line feeds; where there is no byte, there is no text
abbrev pub texts_in : List ℕ → List (List ℕ)
texts_in [] = []
texts_in (b ∷ bs) = slice_split (λ c. c == 10) (b ∷ bs)

-- the tables by their Root System Description Pointer, and the texts that `_OSI` knows
unfoldable pub described_tables : ℕ → List TablePart → List ℕ → Outcome Description
described_tables rsdp parts osi = do
  image ← with_parts map.empty parts
  t ← tables_of image rsdp
  Ok (t, texts_in osi)

-- what the settings ask for: of the options of a run only whether links are set, and whether the report has lines for a kernel
abbrev pub options_of : Settings → List ℕ → RunOptions
options_of settings avoid = record { dry = settings.dry; avoid = avoid; spare = false; spread = false; kernel = settings.kernel }

-- accesses: what the register space makes of them; settings and avoid: what the caller wants
module _ {S : Type 0} (accesses : Accesses S) (settings : Settings) (avoid : List ℕ) where
  -- the report of a machine, or the refusal of what it has to find, and the machine after it
  abbrev pub IsConfigured : MachineState S → Outcome RoutingReport → MachineState S → Type 0
  IsConfigured m (Ok report) after = IsReportFor accesses (options_of settings avoid) m after report
  IsConfigured m (Err e) after = gathered accesses avoid m ≡ (Err e, after)

  -- the same of a machine as initializing left it, whose refusal ends the run
  abbrev pub IsConfiguredIf : Outcome (Unit {0}) → MachineState S → Outcome RoutingReport → MachineState S → Type 0
  IsConfiguredIf (Ok u) m outcome after = IsConfigured m outcome after
  IsConfiguredIf (Err e) m outcome after = (outcome ≡ Err e) × (after ≡ m)

  -- a machine is initialized, and then configured
  abbrev pub IsStarted : MachineState S → Outcome RoutingReport → MachineState S → Type 0
  IsStarted m outcome after = IsConfiguredIf (initialized accesses settings.mode m).0 (initialized accesses settings.mode m).1 outcome after

  -- the same, where the register space is told that is left
  pub record IsMachineRun (m : MachineState S) (outcome : Outcome RoutingReport) (space : S) : Type 0 where
    pub after : MachineState S
    pub is_started : IsStarted m outcome after
    pub is_space : after.world.space ≡ space

  -- from a world as loading left it, whose refusal ends the run
  abbrev pub IsLoadedRun : Tables → Outcome (Unit {0}) → State S → Outcome RoutingReport → S → Type 0
  IsLoadedRun tables (Ok u) w outcome space = IsMachineRun (machine_of tables settings.steps w) outcome space
  IsLoadedRun tables (Err e) w outcome space = (outcome ≡ Err e) × (w.space ≡ space)

  -- tables are loaded over a register space by the settings of its evaluation, where `_OSI` knows these texts
  abbrev pub world_over : Description → S → Outcome (Unit {0}) × State S
  world_over d before = loaded_tables accesses d.0 settings.steps d.1 (fresh_as settings.evaluation d.0.width d.1 before)

  abbrev pub IsRunOver : Description → S → Outcome RoutingReport → S → Type 0
  IsRunOver d before outcome space = IsLoadedRun d.0 (world_over d before).0 (world_over d before).1 outcome space

  -- what is described, or the refusal of the text or of its tables
  abbrev pub IsDescribedRun : Outcome Description → S → Outcome RoutingReport → S → Type 0
  IsDescribedRun (Ok d) before outcome space = IsRunOver d before outcome space
  IsDescribedRun (Err e) before outcome space = (outcome ≡ Err e) × (before ≡ space)

  -- A run over a register space: how it comes out, and the space that it leaves.
  abbrev pub IsRun : List ℕ → S → Outcome RoutingReport → S → Type 0
  IsRun text before outcome space = IsDescribedRun (described text) before outcome space
