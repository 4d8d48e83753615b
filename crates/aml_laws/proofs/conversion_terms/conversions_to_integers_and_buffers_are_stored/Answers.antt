use Rattle.aml_laws.proofs.ConversionTermsDone.{to_integer, to_new_buffer, to_same_buffer, to_nothing}
use Rattle.aml_laws.proofs.conversion_terms.conversions_to_integers_and_buffers_are_stored.Goals as goal

pub returns-clause-integer : goal.returns-clause-integer
returns-clause-integer g c = to_integer

pub returns-clause-new_buffer : goal.returns-clause-new_buffer
returns-clause-new_buffer g c = to_new_buffer

pub returns-clause-same_buffer : goal.returns-clause-same_buffer
returns-clause-same_buffer g c = to_same_buffer

pub returns-clause-refused : goal.returns-clause-refused
returns-clause-refused g c = to_nothing
