use Rattle.std.proofs.Common.{◌-◌, ◌≤◌, ◌<◌, ℕ, length, get_or}
use Rattle.route_numbers.proofs.places.place_among.Given as goal

abbrev pub invariant-loop-low : goal.invariant-loop-low
invariant-loop-low l = record {
  ordered : l.low ≤ l.high;
  within : l.high ≤ length l.numbers;
  below : (k : ℕ) → k < l.low → get_or l.numbers k 0 < l.n;
  above : (k : ℕ) → l.high ≤ k → k < length l.numbers → l.n < get_or l.numbers k 0;
}

abbrev pub decreases-loop-low : goal.decreases-loop-low
decreases-loop-low l = l.high - l.low
