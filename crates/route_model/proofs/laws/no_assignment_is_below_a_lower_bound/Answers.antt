use Rattle.route_model.proofs.ByPlace.{least_by_place}
use Rattle.route_model.proofs.laws.no_assignment_is_below_a_lower_bound.Goals as goal

pub returns : goal.returns
returns c = least_by_place
