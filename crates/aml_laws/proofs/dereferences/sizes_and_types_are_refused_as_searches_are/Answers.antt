use Rattle.aml_laws.proofs.DeadEnds.{name_unfound, term_unfound, holder_unfound}
use Rattle.aml_laws.proofs.ReferencesRead.{an_unfound_end_is_refused}
use Rattle.aml_laws.proofs.dereferences.sizes_and_types_are_refused_as_searches_are.Goals as goal

pub returns-clause-names : goal.returns-clause-names
returns-clause-names g c = name_unfound

pub returns-clause-elements : goal.returns-clause-elements
returns-clause-elements g c = an_unfound_end_is_refused

pub returns-clause-terms : goal.returns-clause-terms
returns-clause-terms g c = term_unfound

pub returns-clause-holders : goal.returns-clause-holders
returns-clause-holders g c = holder_unfound
