use Rattle.route_spread.proofs.Existence.{least_exists}
use Rattle.route_spread.proofs.laws.there_is_a_least_sharing.Goals as goal

pub returns : goal.returns
returns c = least_exists
