use Rattle.std.proofs.Common.{◌≡◌, ◌<◌, ◌-◌, length}
use Rattle.route_numbers.specs.Numbers.{lists_of}
use Rattle.route_spread.specs.Marks.{at, height_at, IsMarked}
use Rattle.route_spread.specs.InMemory.{AreArrangedAt, HasRoomFor}
use Rattle.route_spread.proofs.marking.Marks.mark_links.Given as goal

abbrev pub invariant-loop-link : goal.invariant-loop-link
invariant-loop-link l = record {
  room : HasRoomFor (length l.assignment.loads.items) l.self;
  arranged : AreArrangedAt l.assignment.loads.items l.self l.top;
  passed : l.i < l.self.order.high;
  marked : IsMarked (lists_of l.assignment.offers.items) l.assignment.choice.items l.assignment.loads.items l.self.raised.items l.self.from.items l.self.order.ranks.items l.self.order.high l.i l.link;
  known : l.interrupt < length l.assignment.loads.items;
  here : at l.self.order.ranks.items l.interrupt ≡ l.i;
  mine : l.link < length l.assignment.choice.items → at l.assignment.choice.items l.link ≡ l.interrupt;
  high : height_at l.assignment.loads.items l.self.raised.items l.interrupt ≡ l.top;
}

abbrev pub decreases-loop-link : goal.decreases-loop-link
decreases-loop-link l = length l.assignment.choice.items - l.link
