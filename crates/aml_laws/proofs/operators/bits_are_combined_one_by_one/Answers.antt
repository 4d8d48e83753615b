use Rattle.aml_laws.proofs.OperatorLaws.{ands, ors, xors, nands, nors, nots}
use Rattle.aml_laws.proofs.operators.bits_are_combined_one_by_one.Goals as goal

pub returns-clause-both : goal.returns-clause-both
returns-clause-both g c = ands

pub returns-clause-any : goal.returns-clause-any
returns-clause-any g c = ors

pub returns-clause-one : goal.returns-clause-one
returns-clause-one g c = xors

pub returns-clause-not_both : goal.returns-clause-not_both
returns-clause-not_both g c = nands

pub returns-clause-not_any : goal.returns-clause-not_any
returns-clause-not_any g c = nors

pub returns-clause-other : goal.returns-clause-other
returns-clause-other g c = nots
