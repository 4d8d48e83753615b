use Rattle.aml_laws.proofs.BufferFieldsRefused.{sized_field_refused, field_of_bits_refused}
use Rattle.aml_laws.proofs.buffer_field_terms.a_buffer_field_asks_for_bits_of_a_buffer.Goals as goal

pub returns-clause-sized : goal.returns-clause-sized
returns-clause-sized g c = sized_field_refused

pub returns-clause-any : goal.returns-clause-any
returns-clause-any g c = field_of_bits_refused
