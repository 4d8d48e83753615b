use Rattle.aml_meaning.specs.Meaning.{meaning}
use Rattle.aml_laws.proofs.EndOfCalls.{not_begun_is_refused}
use Rattle.aml_laws.proofs.FramesOpened.{returned, ran_to_its_end, refused_inside, value_given, none_given, refusal_given}
use Rattle.aml_laws.proofs.calls.a_call_gives_what_its_body_returns.Goals as goal

pub returns-clause-returned : goal.returns-clause-returned
returns-clause-returned g c = λ accesses. returned (meaning accesses)

pub returns-clause-nothing : goal.returns-clause-nothing
returns-clause-nothing g c = λ accesses. ran_to_its_end (meaning accesses)

pub returns-clause-refused : goal.returns-clause-refused
returns-clause-refused g c = λ accesses. refused_inside (meaning accesses)

pub returns-clause-not_begun : goal.returns-clause-not_begun
returns-clause-not_begun g c = λ accesses. not_begun_is_refused (meaning accesses)

pub returns-clause-value : goal.returns-clause-value
returns-clause-value g c = λ accesses. value_given (meaning accesses)

pub returns-clause-no_value : goal.returns-clause-no_value
returns-clause-no_value g c = λ accesses. none_given (meaning accesses)

pub returns-clause-refusal : goal.returns-clause-refusal
returns-clause-refusal g c = λ accesses. refusal_given (meaning accesses)
