use Rattle.std.proofs.Common.{◌≤◌, ◌<◌, ◌/◌, ℕ}
use Rattle.route_solve.specs.Rows.{HasBit}
use Rattle.route_solve.proofs.left.begin_left.Given as goal

abbrev pub invariant-loop-w : goal.invariant-loop-w
invariant-loop-w l = record {
  all : (j : ℕ) → j / 64 < l.w → l.low ≤ j → j < l.end → HasBit l.left j;
  only : (j : ℕ) → j / 64 < l.w → HasBit l.left j → l.low ≤ j;
}
