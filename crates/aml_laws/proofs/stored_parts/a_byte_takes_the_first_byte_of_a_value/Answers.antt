use Rattle.aml_laws.proofs.PartsStored.{byte_stored, empty_byte, no_byte}
use Rattle.aml_laws.proofs.stored_parts.a_byte_takes_the_first_byte_of_a_value.Goals as goal

pub returns-clause-stored : goal.returns-clause-stored
returns-clause-stored g c = byte_stored

pub returns-clause-empty : goal.returns-clause-empty
returns-clause-empty g c = empty_byte

pub returns-clause-no_byte : goal.returns-clause-no_byte
returns-clause-no_byte g c = no_byte
