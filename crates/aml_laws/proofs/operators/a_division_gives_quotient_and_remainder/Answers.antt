use Rattle.aml_laws.proofs.Divisions.{divides, remains, refused_by_zero}
use Rattle.aml_laws.proofs.operators.a_division_gives_quotient_and_remainder.Goals as goal

pub returns-clause-quotient : goal.returns-clause-quotient
returns-clause-quotient g c = divides

pub returns-clause-remainder : goal.returns-clause-remainder
returns-clause-remainder g c = remains

pub returns-clause-by_zero : goal.returns-clause-by_zero
returns-clause-by_zero g c = refused_by_zero
