use Rattle.route_spread.proofs.Busiest.{shared_least}
use Rattle.route_spread.proofs.laws.a_least_sharing_is_least.Goals as goal

pub returns : goal.returns
returns c = shared_least
