use Rattle.acpi_configure.proofs.Plain.{told_configured, told_without}
use Rattle.acpi_configure.proofs.laws.a_run_without_options_is_configure.Goals as goal

pub returns-clause-configured : goal.returns-clause-configured
returns-clause-configured g c = told_configured

pub returns-clause-without : goal.returns-clause-without
returns-clause-without g c = told_without
