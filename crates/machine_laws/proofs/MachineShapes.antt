-- A machine over another register space.
use Rattle.acpi_machine.specs.MachineStates.{MachineState}
use Rattle.aml_laws.proofs.Together.{Raise, Shape}
use Rattle.aml_laws.proofs.WorldsTogether.{world_over}

-- a machine over another space, in another profile and of another depth; it evaluates within as many steps
abbrev pub machine_beside : {S T : Type 0} → Raise → MachineState S → T → MachineState T
machine_beside raise m t = record { world = world_over raise m.world t; tables = m.tables; mode = m.mode; steps = m.steps; spent = m.spent }

-- a machine over another space
abbrev pub machine_over : {S T : Type 0} → MachineState S → T → MachineState T
machine_over m t = machine_beside (λ r. r, λ d. d) m t

abbrev pub machines : {S T : Type 0} → Shape S T (MachineState S) (MachineState T)
machines = record { left = λ m. m.world.space; right = λ m. m.world.space; over = λ raise more m t. machine_beside raise m t }
