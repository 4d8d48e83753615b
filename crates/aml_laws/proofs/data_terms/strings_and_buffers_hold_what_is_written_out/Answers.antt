use Rattle.aml_laws.proofs.DataFormed.{string_formed, buffer_formed}
use Rattle.aml_laws.proofs.data_terms.strings_and_buffers_hold_what_is_written_out.Goals as goal

pub returns-clause-string : goal.returns-clause-string
returns-clause-string g c = string_formed

pub returns-clause-buffer : goal.returns-clause-buffer
returns-clause-buffer g c = buffer_formed
