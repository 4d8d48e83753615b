use Rattle.aml_laws.proofs.MutexesCounted.{no_mutex_refused, no_name_refused, by_reference, by_no_reference}
use Rattle.aml_laws.proofs.mutexes.what_is_no_mutex_is_neither_acquired_nor_released.Goals as goal

pub returns-clause-names : goal.returns-clause-names
returns-clause-names g c = no_mutex_refused

pub returns-clause-others : goal.returns-clause-others
returns-clause-others g c = no_name_refused

pub returns-clause-referred : goal.returns-clause-referred
returns-clause-referred g c = by_reference

pub returns-clause-other_references : goal.returns-clause-other_references
returns-clause-other_references g c = by_no_reference
