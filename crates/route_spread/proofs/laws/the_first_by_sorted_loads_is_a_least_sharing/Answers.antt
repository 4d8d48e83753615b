use Rattle.route_spread.proofs.Existence.{first_is_least}
use Rattle.route_spread.proofs.laws.the_first_by_sorted_loads_is_a_least_sharing.Goals as goal

pub returns : goal.returns
returns c = first_is_least
