use Rattle.aml_fields.proofs.Covers.{units_cover}
use Rattle.aml_fields.proofs.laws.units_hold_each_bit_once.Goals as goal

pub returns : goal.returns
returns c = units_cover
