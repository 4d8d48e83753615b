use Rattle.aml_fields.proofs.Plain.{reads_back}
use Rattle.aml_fields.proofs.laws.a_field_is_read_as_it_was_written.Goals as goal

pub returns : goal.returns
returns c = reads_back
