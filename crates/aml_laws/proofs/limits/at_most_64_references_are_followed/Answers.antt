use Rattle.aml_laws.proofs.ReferenceChains.{chain_followed}
use Rattle.aml_laws.proofs.limits.at_most_64_references_are_followed.Goals as goal

pub returns-clause-followed : goal.returns-clause-followed
returns-clause-followed g c = λ w n r x chain few. chain_followed w n 64 r x chain few
