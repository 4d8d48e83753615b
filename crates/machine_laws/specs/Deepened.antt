-- Machines in which calls and terms may be deeper, one inside another.
use Rattle.std.specs.Prelude.{◌≡◌}
use Rattle.ar_space.specs.Outcome.{Outcome}
use Rattle.aml_world.specs.declared.state.settings.Nesting.{Nesting}
use Rattle.aml_laws.specs.Deepened.{deepened}
use Rattle.acpi_machine.specs.MachineStates.{MachineState}

-- the same machine with so many calls and so many levels more
abbrev pub machine_deepened : {S : Type 0} → Nesting → MachineState S → MachineState S
machine_deepened more m = record { world = deepened more m.world; tables = m.tables; mode = m.mode; steps = m.steps; spent = m.spent }

-- what a call gives and leaves, with the machine so
abbrev pub call_deepened : {S A : Type 0} → Nesting → Outcome A × MachineState S → Outcome A × MachineState S
call_deepened more r = (r.0, machine_deepened more r.1)
