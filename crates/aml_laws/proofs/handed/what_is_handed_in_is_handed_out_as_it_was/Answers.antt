use Rattle.aml_laws.proofs.HandedBack.{handed_back}
use Rattle.aml_laws.proofs.handed.what_is_handed_in_is_handed_out_as_it_was.Goals as goal

pub returns : goal.returns
returns g c = record { same = λ accesses data_in v w after steps rest apart back e many. handed_back accesses data_in v w after steps rest apart back e many }
