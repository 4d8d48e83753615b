use Rattle.aml_fields.proofs.Numbers.{number_again}
use Rattle.aml_fields.proofs.laws.a_number_is_that_of_its_bits.Goals as goal

pub returns : goal.returns
returns c = number_again
