use Rattle.std.proofs.Common.{◌≡◌, length}
use Rattle.route_spread.proofs.Chains.{IsGathered}
use Rattle.route_spread.proofs.holders.Holders.note.Given as goal

abbrev pub invariant-loop-link : goal.invariant-loop-link
invariant-loop-link l = record {
  gathered : IsGathered l.choice l.self.first.items l.self.next.items l.link;
  first : length l.self.first.items ≡ length l.fn.self.first.items;
  next : length l.self.next.items ≡ length l.fn.self.next.items;
}

abbrev pub decreases-loop-link : goal.decreases-loop-link
decreases-loop-link l = l.link
