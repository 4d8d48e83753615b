use Rattle.aml_laws.proofs.ComparedValues.{asked_for, not_asked_for, not_compared}
use Rattle.aml_laws.proofs.values.comparisons_answer_by_the_order.Goals as goal

pub returns-clause-asked : goal.returns-clause-asked
returns-clause-asked g c = asked_for

pub returns-clause-not_asked : goal.returns-clause-not_asked
returns-clause-not_asked g c = not_asked_for

pub returns-clause-refused : goal.returns-clause-refused
returns-clause-refused g c = not_compared
