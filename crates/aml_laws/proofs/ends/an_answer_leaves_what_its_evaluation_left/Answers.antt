use Rattle.aml_laws.proofs.AnswersEnded.{value_told, value_refused, method_called, answer_ends, value_handed_out, call_refused}
use Rattle.aml_laws.proofs.ends.an_answer_leaves_what_its_evaluation_left.Goals as goal

pub returns-clause-value : goal.returns-clause-value
returns-clause-value g c = value_told

pub returns-clause-no_value : goal.returns-clause-no_value
returns-clause-no_value g c = value_refused

pub returns-clause-called : goal.returns-clause-called
returns-clause-called g c = method_called

pub returns-clause-answer : goal.returns-clause-answer
returns-clause-answer g c = answer_ends

pub returns-clause-handed_out : goal.returns-clause-handed_out
returns-clause-handed_out g c = value_handed_out

pub returns-clause-refused : goal.returns-clause-refused
returns-clause-refused g c = call_refused
