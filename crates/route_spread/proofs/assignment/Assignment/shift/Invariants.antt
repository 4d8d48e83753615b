use Rattle.std.proofs.Common.{◌≡◌, length}
use Rattle.route_numbers.specs.Numbers.{lists_of}
use Rattle.route_spread.specs.Marks.{at, IsMoving}
use Rattle.route_spread.proofs.assignment.Assignment.shift.Given as goal

abbrev pub invariant-loop-self : goal.invariant-loop-self
invariant-loop-self l = record {
  links : length l.self.choice.items ≡ length l.fn.self.choice.items;
  holders : l.self.holders ≡ l.fn.self.holders;
  offers : l.self.offers ≡ l.fn.self.offers;
  loads : l.self.loads ≡ l.fn.self.loads;
  moving : IsMoving (lists_of l.fn.self.offers.items) l.fn.self.choice.items l.self.choice.items l.fn.self.loads.items l.marks.raised.items l.marks.order.ranks.items l.way.target l.next l.to;
}

abbrev pub decreases-loop-self : goal.decreases-loop-self
decreases-loop-self l = at l.marks.order.ranks.items (at l.self.choice.items l.next)
