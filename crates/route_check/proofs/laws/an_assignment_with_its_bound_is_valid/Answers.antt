use Rattle.route_check.proofs.Claimed.{valid}
use Rattle.route_check.proofs.laws.an_assignment_with_its_bound_is_valid.Goals as goal

pub returns : goal.returns
returns c = valid
