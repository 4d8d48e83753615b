use Rattle.aml_laws.proofs.OperandsRefused.{first_operand_refused, second_operand_refused, first_of_others, second_of_others}
use Rattle.aml_laws.proofs.operands.operands_that_do_not_convert_are_refused.Goals as goal

pub returns-clause-first : goal.returns-clause-first
returns-clause-first g c = first_operand_refused

pub returns-clause-second : goal.returns-clause-second
returns-clause-second g c = second_operand_refused

pub returns-clause-first_of_others : goal.returns-clause-first_of_others
returns-clause-first_of_others g c = first_of_others

pub returns-clause-second_of_others : goal.returns-clause-second_of_others
returns-clause-second_of_others g c = second_of_others
