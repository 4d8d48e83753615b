-- The machine that a machine text describes, with its tables loaded.
use Rattle.std.specs.Prelude.{ℕ, List, Ok, Err}
use Rattle.ar_space.specs.Outcome.{Outcome, ◌>>=◌}
use Rattle.ar_space.specs.Accesses.{Accesses}
use Rattle.ar_space.specs.Bytes.{Bytes, byte_accesses}
use Rattle.ar_tables.specs.declared.tables.Tables.{Tables}
use Rattle.ar_tables.specs.FindTables.{tables_of}
use Rattle.machine_text.specs.MachineText.{machine_text}
use Rattle.aml_world.specs.state.State.{State}
use Rattle.aml_world.specs.state.Predefined.{fresh_as}
use Rattle.acpi_machine.specs.Calls.{initialized}
use Rattle.acpi_machine.specs.Loading.{loaded_tables}
use Rattle.acpi_machine.specs.MachineStates.{MachineState, machine_of}
use Rattle.ar_tables.specs.declared.mode.Mode.{Mode}
use Rattle.acpiroute_shell.specs.declared.request.Evaluation.{Evaluation}
use Rattle.watched_space.specs.Metering.{Meter, metered}

-- The register space of a run: the bytes of a machine text. Where accesses are bounded, each one behind the last is refused as Device.
abbrev pub Registers : Type 0
Registers = Meter Bytes

abbrev pub register_accesses : Accesses Registers
register_accesses = metered byte_accesses

abbrev pub registers_of : Evaluation → Bytes → Registers
registers_of evaluation space = record { inner = space; left = evaluation.accesses }

-- the machine over the world that loading left, or the refusal that ended it
abbrev pub machine_left : Tables → ℕ → State Registers → Outcome (Unit {0}) → Outcome (MachineState Registers)
machine_left t steps w (Ok u) = Ok (machine_of t steps w)
machine_left t steps w (Err e) = Err e

-- the tables, loaded over a register space and evaluated like this, where `_OSI` knows these texts
unfoldable pub machine_with : Evaluation → Tables → Registers → List (List ℕ) → Outcome (MachineState Registers)
machine_with evaluation t space osi =
    let l = loaded_tables register_accesses t evaluation.steps osi (fresh_as evaluation.settings t.width osi space) in machine_left t evaluation.steps l.1 l.0

-- the machine of a machine text: the image of its tables is its memory, and its bytes are the
-- register space
unfoldable pub machine_of_text : Evaluation → List ℕ → Outcome (MachineState Registers)
machine_of_text evaluation text = do
  m ← machine_text text
  t ← tables_of m.space.memory m.rsdp
  machine_with evaluation t (registers_of evaluation m.space) m.osi

-- ---- initialized

-- the machine as its calls left it, or the refusal that ended them
abbrev pub initialized_left : MachineState Registers → Outcome (Unit {0}) → Outcome (MachineState Registers)
initialized_left m (Ok u) = Ok m
initialized_left m (Err e) = Err e

unfoldable pub initialized_machine : Mode → MachineState Registers → Outcome (MachineState Registers)
initialized_machine mode m = let i = initialized register_accesses mode m in initialized_left i.1 i.0

-- the machine of a machine text, initialized in this mode
unfoldable pub machine_of_text_in : Mode → Evaluation → List ℕ → Outcome (MachineState Registers)
machine_of_text_in mode evaluation text = do
  m ← machine_of_text evaluation text
  initialized_machine mode m
