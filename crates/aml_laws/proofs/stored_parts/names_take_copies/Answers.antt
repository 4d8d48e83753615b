use Rattle.aml_laws.proofs.PartsStored.{name_copied, name_stored, name_refuses}
use Rattle.aml_laws.proofs.stored_parts.names_take_copies.Goals as goal

pub returns-clause-copied : goal.returns-clause-copied
returns-clause-copied g c = name_copied

pub returns-clause-stored : goal.returns-clause-stored
returns-clause-stored g c = name_stored

pub returns-clause-refused : goal.returns-clause-refused
returns-clause-refused g c = name_refuses
