use Rattle.aml_fields.proofs.Numbers.{packed_again}
use Rattle.aml_fields.proofs.laws.bytes_are_their_bits_packed.Goals as goal

pub returns : goal.returns
returns c = packed_again
