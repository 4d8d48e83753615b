use Rattle.acpi_configure.proofs.One.{one_told}
use Rattle.acpi_configure.proofs.laws.a_machine_has_one_report_with_options.Goals as goal

pub returns : goal.returns
returns g c = one_told c.a_problem_has_one_answer.ensures
