use Rattle.recorded_space.proofs.Stops.{used_up}
use Rattle.recorded_space.proofs.laws.a_record_of_a_run_is_used_to_its_end.Goals as goal

pub returns : goal.returns
returns g c = λ accesses space entries what. used_up accesses entries space what
