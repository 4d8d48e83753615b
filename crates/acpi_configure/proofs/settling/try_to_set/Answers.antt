use Rattle.acpi_configure.specs.Settling.{set_told}
use Rattle.acpi_configure.proofs.Stopped.{attempt_made}
use Rattle.acpi_configure.proofs.settling.try_to_set.Goals as goal

pub returns-clause-evaluated : goal.returns-clause-evaluated
returns-clause-evaluated g c = attempt_made set_told _ c.set_current_resources-outcome.ensures.evaluated
