use Rattle.acpi_configure.proofs.One.{one_report}
use Rattle.acpi_configure.proofs.laws.a_machine_has_one_report.Goals as goal

pub returns : goal.returns
returns g c = one_report c.a_problem_has_one_answer.ensures
