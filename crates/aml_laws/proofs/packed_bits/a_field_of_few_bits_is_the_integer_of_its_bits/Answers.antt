use Rattle.aml_laws.proofs.PackedBits.{few_bits_are_an_integer}
use Rattle.aml_laws.proofs.packed_bits.a_field_of_few_bits_is_the_integer_of_its_bits.Goals as goal

pub returns : goal.returns
returns g c = few_bits_are_an_integer
