use Rattle.acpi_configure.specs.Settling.{state_told}
use Rattle.acpi_configure.proofs.Stopped.{attempt_made}
use Rattle.acpi_configure.proofs.settling.try_to_read.Goals as goal

pub returns-clause-evaluated : goal.returns-clause-evaluated
returns-clause-evaluated g c = attempt_made state_told _ c.get_current_resources-state.ensures.evaluated
