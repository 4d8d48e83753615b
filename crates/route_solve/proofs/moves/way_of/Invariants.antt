use Rattle.std.proofs.Common.{◌≢◌, ◌<◌, ℕ}
use Rattle.route_solve.specs.Ready.{ready_at}
use Rattle.route_solve.proofs.moves.way_of.Given as goal

abbrev pub invariant-loop-k : goal.invariant-loop-k
invariant-loop-k l = (m : ℕ) → m < l.k → ready_at l.ways m ≢ l.i
