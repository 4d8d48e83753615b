use Rattle.aml_laws.proofs.AskedFromOutside.{itself_is_value, path_is_answer}
use Rattle.aml_laws.proofs.asked.an_object_that_holds_no_value_answers_its_path.Goals as goal

pub returns-clause-value : goal.returns-clause-value
returns-clause-value g c = itself_is_value

pub returns-clause-answer : goal.returns-clause-answer
returns-clause-answer g c = path_is_answer
