use Rattle.std.proofs.Common.{◌≡◌, ◌<◌, ℕ, length}
use Rattle.route_spread.specs.Marks.{at}
use Rattle.route_spread.proofs.order.Order.rank.Given as goal

abbrev pub invariant-loop-j : goal.invariant-loop-j
invariant-loop-j l = record {
  same : l.self.interrupts ≡ l.fn.self.interrupts;
  long : length l.self.ranks.items ≡ length l.self.interrupts.items;
  ranked : (k : ℕ) → k < l.j → at l.self.ranks.items (at l.self.interrupts.items k) ≡ k;
}
