use Rattle.aml_laws.proofs.OperatorLaws.{finds_highest, finds_lowest}
use Rattle.aml_laws.proofs.operators.set_bits_are_numbered_from_one.Goals as goal

pub returns-clause-highest : goal.returns-clause-highest
returns-clause-highest g c = finds_highest

pub returns-clause-lowest : goal.returns-clause-lowest
returns-clause-lowest g c = finds_lowest
