use Rattle.aml_accesses.proofs.asking.answer_allowed.Goals as goal

pub returns-in-Value-clause-means : goal.returns-in-Value-clause-means
returns-in-Value-clause-means g c = rw c.in-Value.is c.known.ensures.means
