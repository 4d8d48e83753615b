use Rattle.aml_laws.proofs.StoredCopies.{name_holds_copy, local_stored, local_copied}
use Rattle.aml_laws.proofs.copies.what_is_stored_is_a_copy.Goals as goal

pub returns-clause-named : goal.returns-clause-named
returns-clause-named g c = name_holds_copy

pub returns-clause-local : goal.returns-clause-local
returns-clause-local g c = local_stored

pub returns-clause-local_copied : goal.returns-clause-local_copied
returns-clause-local_copied g c = local_copied
