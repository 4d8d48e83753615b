-- Machines over a register space with notes.
use Rattle.ar_space.specs.Outcome.{Outcome}
use Rattle.aml_laws.specs.Noted.{WithNotes, without_notes}
use Rattle.acpi_machine.specs.MachineStates.{MachineState}

-- a machine without its notes
abbrev pub machine_without_notes : {S : Type 0} → MachineState (WithNotes S) → MachineState S
machine_without_notes m = record { world = without_notes m.world; tables = m.tables; mode = m.mode; steps = m.steps; spent = m.spent }

-- what a call gives and leaves, without the notes
abbrev pub call_without_notes : {S A : Type 0} → Outcome A × MachineState (WithNotes S) → Outcome A × MachineState S
call_without_notes r = (r.0, machine_without_notes r.1)
