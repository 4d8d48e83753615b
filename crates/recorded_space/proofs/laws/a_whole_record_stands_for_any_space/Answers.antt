use Rattle.recorded_space.proofs.Runs.{whole}
use Rattle.recorded_space.proofs.laws.a_whole_record_stands_for_any_space.Goals as goal

pub returns : goal.returns
returns g c = λ accesses space entries what. whole accesses entries space what
