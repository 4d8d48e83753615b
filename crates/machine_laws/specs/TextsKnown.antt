-- The texts that `_OSI` knows (ACPI 6.5, 5.7.2).
use Rattle.std.specs.Prelude.{ℕ, List}
use Rattle.acpi_machine.specs.MachineStates.{MachineState}

-- the same machine, in whose world these are known
abbrev pub with_texts : {S : Type 0} → List (List ℕ) → MachineState S → MachineState S
with_texts texts m = record m { world = record m.world { osi = texts } }
