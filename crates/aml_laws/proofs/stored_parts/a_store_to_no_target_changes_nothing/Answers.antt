use Rattle.aml_laws.proofs.PartsStored.{nowhere_stored, nowhere_copied}
use Rattle.aml_laws.proofs.stored_parts.a_store_to_no_target_changes_nothing.Goals as goal

pub returns-clause-stored : goal.returns-clause-stored
returns-clause-stored g c = nowhere_stored

pub returns-clause-copied : goal.returns-clause-copied
returns-clause-copied g c = nowhere_copied
