use Rattle.aml_laws.proofs.ObjectsAnswered.{value_held, value_answered, integer_answered, buffer_formed, bytes_answered, unread, takes_no_arguments}
use Rattle.aml_laws.proofs.ends.an_object_that_is_no_control_method_answers_what_it_holds.Goals as goal

pub returns-clause-value : goal.returns-clause-value
returns-clause-value g c = value_held

pub returns-clause-answer : goal.returns-clause-answer
returns-clause-answer g c = value_answered

pub returns-clause-integer : goal.returns-clause-integer
returns-clause-integer g c = integer_answered

pub returns-clause-buffer : goal.returns-clause-buffer
returns-clause-buffer g c = buffer_formed

pub returns-clause-bytes : goal.returns-clause-bytes
returns-clause-bytes g c = bytes_answered

pub returns-clause-refused : goal.returns-clause-refused
returns-clause-refused g c = unread

pub returns-clause-arguments : goal.returns-clause-arguments
returns-clause-arguments g c = takes_no_arguments
