use Rattle.aml_laws.proofs.OperatorLaws.{shifts_left, shifts_right}
use Rattle.aml_laws.proofs.operators.shifts_multiply_and_divide_by_powers_of_two.Goals as goal

pub returns-clause-left : goal.returns-clause-left
returns-clause-left g c = shifts_left

pub returns-clause-right : goal.returns-clause-right
returns-clause-right g c = shifts_right
