-- A machine over the register space below the one that keeps its last access.
use Rattle.aml_world.specs.state.State.{State}
use Rattle.acpi_machine.specs.MachineStates.{MachineState}
use Rattle.watched_space.specs.Watching.{Watch}

abbrev pub world_below : {S : Type 0} → State (Watch S) → State S
world_below w = record { names = w.names; arities = w.arities; objects = w.objects; frames = w.frames; started = w.started; space = w.space.inner; osi = w.osi; width = w.width; profile = w.profile; nesting = w.nesting; passed = w.passed }

abbrev pub machine_below : {S : Type 0} → MachineState (Watch S) → MachineState S
machine_below m = record { world = world_below m.world; tables = m.tables; mode = m.mode; steps = m.steps; spent = m.spent }
