use Rattle.aml_convert.proofs.SetBits.{highest}
use Rattle.aml_convert.proofs.laws.an_integer_has_its_highest_set_bit.Goals as goal

pub returns : goal.returns
returns c = highest
