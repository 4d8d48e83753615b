use Rattle.route_solve.proofs.Unique.{one_set}
use Rattle.route_solve.proofs.laws.the_set_is_one.Goals as goal

pub returns : goal.returns
returns c = one_set
