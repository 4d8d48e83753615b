use Rattle.aml_convert.proofs.SetBits.{lowest}
use Rattle.aml_convert.proofs.laws.an_integer_has_its_lowest_set_bit.Goals as goal

pub returns : goal.returns
returns c = lowest
