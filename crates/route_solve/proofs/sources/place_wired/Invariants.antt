use Rattle.std.proofs.Common.{◌-◌, ◌≤◌, ◌<◌, ℕ, length, get_or}
use Rattle.route_solve.proofs.sources.place_wired.Given as goal

abbrev pub invariant-loop-low : goal.invariant-loop-low
invariant-loop-low l = record {
  ordered : l.low ≤ l.high;
  within : l.high ≤ length l.wired;
  below : (k : ℕ) → k < l.low → (get_or l.wired k (0, 0)).0 < l.n;
  above : (k : ℕ) → l.high ≤ k → k < length l.wired → l.n < (get_or l.wired k (0, 0)).0;
}

abbrev pub decreases-loop-low : goal.decreases-loop-low
decreases-loop-low l = l.high - l.low
