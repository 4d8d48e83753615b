use Rattle.aml_laws.proofs.TestsTold.{tells_both, tells_any, tells_zero}
use Rattle.aml_laws.proofs.tests.logical_operators_tell_of_truth.Goals as goal

pub returns-clause-both : goal.returns-clause-both
returns-clause-both g c = tells_both

pub returns-clause-any : goal.returns-clause-any
returns-clause-any g c = tells_any

pub returns-clause-other : goal.returns-clause-other
returns-clause-other g c = tells_zero
