use Rattle.recorded_space.proofs.Runs.{stands}
use Rattle.recorded_space.proofs.laws.what_is_missing_stands.Goals as goal

pub returns : goal.returns
returns g c = λ now what access. stands now what access
