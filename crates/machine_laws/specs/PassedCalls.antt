-- A machine with a note of a call of initializing that it passed over.
use Rattle.std.specs.Prelude.{List}
use Rattle.ar_space.specs.declared.refusal.Refusal.{Refusal}
use Rattle.aml_path.specs.declared.segment.Seg.{Seg}
use Rattle.aml_world.specs.state.Noting.{with_passed}
use Rattle.acpi_machine.specs.MachineStates.{MachineState}

-- the path of what was called, and what it was refused for
abbrev pub with_passed_call : {S : Type 0} → List Seg → Refusal → MachineState S → MachineState S
with_passed_call p e m = record m { world = with_passed p e m.world }
