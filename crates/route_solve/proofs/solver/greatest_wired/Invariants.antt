use Rattle.std.proofs.Common.{◌≤◌, ◌<◌, ℕ, get_or}
use Rattle.route_model.specs.Routing.{wired_to}
use Rattle.route_solve.specs.Floor.{IsFloor}
use Rattle.route_solve.proofs.solver.greatest_wired.Given as goal

abbrev pub invariant-loop-w : goal.invariant-loop-w
invariant-loop-w l = record {
  above : (k : ℕ) → k < l.w-index → wired_to l.wired (get_or l.wired k (0, 0)).0 ≤ l.greatest;
  reached : IsFloor l.wired l.greatest;
  small : l.greatest ≤ 4096;
}
