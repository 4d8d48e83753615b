-- What calls of a machine make of it: evaluations change its world, and nothing else changes.
use Rattle.std.specs.Prelude.{◌≡◌}
use Rattle.ar_space.specs.Accesses.{Accesses}
use Rattle.aml_laws.specs.Becomes.{Becomes}
use Rattle.acpi_machine.specs.MachineStates.{MachineState}

pub record OnlyEvaluated {S : Type 0} (accesses : Accesses S) (before after : MachineState S) : Type 0 where
  pub world : Becomes accesses before.world after.world
  pub tables : after.tables ≡ before.tables
  pub mode : after.mode ≡ before.mode
  pub steps : after.steps ≡ before.steps
  pub spent : after.spent ≡ before.spent
