use Rattle.aml_laws.proofs.TestsTold.{tells_equal, tells_greater, tells_less, compares_values}
use Rattle.aml_laws.proofs.tests.terms_of_comparisons_tell_the_order.Goals as goal

pub returns-clause-equal : goal.returns-clause-equal
returns-clause-equal g c = tells_equal

pub returns-clause-greater : goal.returns-clause-greater
returns-clause-greater g c = tells_greater

pub returns-clause-less : goal.returns-clause-less
returns-clause-less g c = tells_less

pub returns-clause-values : goal.returns-clause-values
returns-clause-values g c = compares_values
