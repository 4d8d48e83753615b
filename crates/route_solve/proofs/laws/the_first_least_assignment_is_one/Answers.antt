use Rattle.route_solve.proofs.Unique.{one_assignment}
use Rattle.route_solve.proofs.laws.the_first_least_assignment_is_one.Goals as goal

pub returns : goal.returns
returns c = one_assignment
