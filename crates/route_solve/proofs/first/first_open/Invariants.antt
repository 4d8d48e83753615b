use Rattle.std.proofs.Common.{◌≤◌, ◌<◌, ℕ}
use Rattle.route_solve.specs.Graphs.{capacity}
use Rattle.route_solve.specs.Capacities.{at}
use Rattle.route_solve.proofs.first.first_open.Given as goal

abbrev pub invariant-loop-i : goal.invariant-loop-i
invariant-loop-i l = (j : ℕ) → j < l.i-index → capacity l.graph (at l.offers j) ≤ at l.kept (at l.offers j)
