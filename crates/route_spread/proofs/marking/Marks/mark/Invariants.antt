use Rattle.std.proofs.Common.{length}
use Rattle.route_spread.specs.InMemory.{HasRoomFor, HaveMarked}
use Rattle.route_spread.proofs.marking.Marks.mark.Given as goal

abbrev pub invariant-loop-i : goal.invariant-loop-i
invariant-loop-i l = record {
  room : HasRoomFor (length l.assignment.loads.items) l.self;
  marked : HaveMarked l.assignment l.self l.i;
}
