use Rattle.aml_laws.proofs.BufferFieldsDeclared.{sized_field_declared, field_declared}
use Rattle.aml_laws.proofs.buffer_field_terms.a_buffer_field_is_declared_as_its_term_says.Goals as goal

pub returns-clause-sized : goal.returns-clause-sized
returns-clause-sized g c = sized_field_declared

pub returns-clause-any : goal.returns-clause-any
returns-clause-any g c = field_declared
