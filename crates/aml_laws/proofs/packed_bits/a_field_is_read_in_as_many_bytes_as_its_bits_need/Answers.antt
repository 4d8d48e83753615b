use Rattle.aml_laws.proofs.PackedBits.{packs, units_are_packed, buffer_field_is_packed, any_field_is_packed}
use Rattle.aml_laws.proofs.packed_bits.a_field_is_read_in_as_many_bytes_as_its_bits_need.Goals as goal

pub returns-clause-packed : goal.returns-clause-packed
returns-clause-packed g c = packs

pub returns-clause-units : goal.returns-clause-units
returns-clause-units g c = units_are_packed

pub returns-clause-in_buffer : goal.returns-clause-in_buffer
returns-clause-in_buffer g c = buffer_field_is_packed

pub returns-clause-any : goal.returns-clause-any
returns-clause-any g c = any_field_is_packed
