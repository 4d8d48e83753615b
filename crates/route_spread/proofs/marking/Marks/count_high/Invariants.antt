use Rattle.std.proofs.Common.{◌≤◌, ◌<◌, ◌-◌, ℕ, length}
use Rattle.route_spread.specs.Marks.{at, height_at}
use Rattle.route_spread.proofs.marking.Marks.count_high.Given as goal

abbrev pub invariant-loop-high : goal.invariant-loop-high
invariant-loop-high l = record {
  more : l.self.order.high ≤ l.high;
  above : (x : ℕ) → x < length l.self.order.ranks.items → at l.self.order.ranks.items x < l.high → l.top ≤ height_at l.loads l.self.raised.items x;
}

abbrev pub decreases-loop-high : goal.decreases-loop-high
decreases-loop-high l = length l.self.order.interrupts.items - l.high
