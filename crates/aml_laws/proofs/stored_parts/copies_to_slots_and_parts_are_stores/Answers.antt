use Rattle.aml_laws.proofs.PartsStored.{slot_copied, element_copied, byte_copied}
use Rattle.aml_laws.proofs.stored_parts.copies_to_slots_and_parts_are_stores.Goals as goal

pub returns-clause-slot : goal.returns-clause-slot
returns-clause-slot g c = slot_copied

pub returns-clause-element : goal.returns-clause-element
returns-clause-element g c = element_copied

pub returns-clause-byte : goal.returns-clause-byte
returns-clause-byte g c = byte_copied
