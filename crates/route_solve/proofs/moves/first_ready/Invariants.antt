use Rattle.std.proofs.Common.{◌≡◌, ◌<◌, ℕ, false}
use Rattle.route_model.specs.Placement.{is_reached}
use Rattle.route_solve.specs.Capacities.{at}
use Rattle.route_solve.proofs.moves.first_ready.Given as goal

abbrev pub invariant-loop-k : goal.invariant-loop-k
invariant-loop-k l = (j : ℕ) → j < l.k → is_reached l.visited (at l.offers j) ≡ false
