use Rattle.std.proofs.Common.{◌≡◌, ◌<◌, ℕ, length}
use Rattle.route_spread.specs.Marks.{at}
use Rattle.route_spread.proofs.order.upto.Given as goal

abbrev pub invariant-loop-i : goal.invariant-loop-i
invariant-loop-i l = record {
  long : length l.list.items ≡ l.i;
  each : (k : ℕ) → k < l.i → at l.list.items k ≡ k;
}
