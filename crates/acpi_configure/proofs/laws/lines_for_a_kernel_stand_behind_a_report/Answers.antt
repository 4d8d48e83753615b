use Rattle.acpi_configure.proofs.Telling.{told_behind, not_told}
use Rattle.acpi_configure.proofs.laws.lines_for_a_kernel_stand_behind_a_report.Goals as goal

pub returns-clause-told : goal.returns-clause-told
returns-clause-told g c = told_behind

pub returns-clause-without : goal.returns-clause-without
returns-clause-without g c = not_told
