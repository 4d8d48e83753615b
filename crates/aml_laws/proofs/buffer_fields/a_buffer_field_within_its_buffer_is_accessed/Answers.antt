use Rattle.aml_laws.proofs.BufferFieldAnswers.{field_answers}
use Rattle.aml_laws.proofs.buffer_fields.a_buffer_field_within_its_buffer_is_accessed.Goals as goal

pub returns-clause-written : goal.returns-clause-written
returns-clause-written c = λ field objects bytes source at short within. field_answers field objects bytes source at short within
