use Rattle.recorded_space.proofs.Runs.{next_one}
use Rattle.recorded_space.proofs.laws.the_missing_access_is_the_next_one.Goals as goal

pub returns : goal.returns
returns g c = λ accesses space entries what access. next_one accesses entries space what access
