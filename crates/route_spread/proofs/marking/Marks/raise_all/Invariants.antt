use Rattle.std.proofs.Common.{◌≤◌, ◌<◌, ℕ, length, get_or}
use Rattle.std.specs.Prelude.{Contains}
use Rattle.route_spread.specs.Marks.{height_at}
use Rattle.route_spread.specs.InMemory.{AreArrangedAt, AreLater, HasRoomFor, HaveRaised}
use Rattle.route_spread.proofs.marking.Marks.raise_all.Given as goal

abbrev pub invariant-loop-i : goal.invariant-loop-i
invariant-loop-i l = record {
  room : HasRoomFor (length l.loads) l.self;
  arranged : AreArrangedAt l.loads l.self l.top;
  later : AreLater l.fn.self l.self;
  done : (k : ℕ) → k < l.i-index → l.top ≤ height_at l.loads l.self.raised.items (get_or l.offers k 0);
  only : HaveRaised l.loads l.fn.self l.self l.link l.top (λ x. Contains l.offers x);
}
