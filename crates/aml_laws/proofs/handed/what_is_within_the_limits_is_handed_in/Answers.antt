use Rattle.aml_laws.proofs.HandedIn.{handed_in}
use Rattle.aml_laws.proofs.handed.what_is_within_the_limits_is_handed_in.Goals as goal

pub returns : goal.returns
returns g c = λ w count data_in is room. handed_in w count data_in is room
