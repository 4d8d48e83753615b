use Rattle.acpi_configure.proofs.One.{one_answer}
use Rattle.acpi_configure.proofs.laws.a_problem_has_one_answer.Goals as goal

pub returns : goal.returns
returns c = one_answer c.the_first_least_assignment_is_one.ensures c.the_set_is_one.ensures
