use Rattle.aml_laws.proofs.NamesNotFound.{term_not_found, value_not_found, answer_not_found}
use Rattle.aml_laws.proofs.names_used.a_name_that_is_not_found_is_refused.Goals as goal

pub returns-clause-term : goal.returns-clause-term
returns-clause-term g c = term_not_found

pub returns-clause-value : goal.returns-clause-value
returns-clause-value g c = value_not_found

pub returns-clause-answer : goal.returns-clause-answer
returns-clause-answer g c = answer_not_found
