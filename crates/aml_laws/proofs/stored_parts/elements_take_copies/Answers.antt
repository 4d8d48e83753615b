use Rattle.aml_laws.proofs.PartsStored.{element_stored, element_refuses}
use Rattle.aml_laws.proofs.stored_parts.elements_take_copies.Goals as goal

pub returns-clause-part : goal.returns-clause-part
returns-clause-part g c = element_stored

pub returns-clause-refused : goal.returns-clause-refused
returns-clause-refused g c = element_refuses
