use Rattle.aml_laws.proofs.PackedBits.{buffer_field_is_written, unit_is_filled, unit_is_merged}
use Rattle.aml_laws.proofs.packed_bits.a_field_is_written_with_the_bits_of_its_source.Goals as goal

pub returns-clause-in_buffer : goal.returns-clause-in_buffer
returns-clause-in_buffer c = buffer_field_is_written

pub returns-clause-filled : goal.returns-clause-filled
returns-clause-filled c = unit_is_filled

pub returns-clause-merged : goal.returns-clause-merged
returns-clause-merged c = unit_is_merged
