use Rattle.aml_laws.proofs.AskedFromOutside.{value_of_other_number, answer_of_other_number}
use Rattle.aml_laws.proofs.asked.a_control_method_is_asked_with_as_many_arguments_as_it_takes.Goals as goal

pub returns-clause-value : goal.returns-clause-value
returns-clause-value g c = value_of_other_number

pub returns-clause-answer : goal.returns-clause-answer
returns-clause-answer g c = answer_of_other_number
