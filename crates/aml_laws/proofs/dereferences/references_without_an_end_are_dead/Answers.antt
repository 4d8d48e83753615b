use Rattle.aml_laws.proofs.DeadEnds.{no_end_is_found, term_without_end, holder_without_end}
use Rattle.aml_laws.proofs.ReferencesRead.{an_empty_end_is_found}
use Rattle.aml_laws.proofs.dereferences.references_without_an_end_are_dead.Goals as goal

pub returns-clause-dead : goal.returns-clause-dead
returns-clause-dead g c = no_end_is_found

pub returns-clause-empty : goal.returns-clause-empty
returns-clause-empty g c = an_empty_end_is_found

pub returns-clause-terms : goal.returns-clause-terms
returns-clause-terms g c = term_without_end

pub returns-clause-holders : goal.returns-clause-holders
returns-clause-holders g c = holder_without_end
