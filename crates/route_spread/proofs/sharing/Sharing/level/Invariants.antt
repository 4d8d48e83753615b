use Rattle.std.proofs.Common.{◌*◌}
use Rattle.std.specs.Prelude.{sum_by}
use Rattle.route_spread.specs.Improving.{CanBeImproved, HasSameOffers, IsImproved}
use Rattle.route_spread.proofs.sharing.Sharing.level.Given as goal

abbrev pub invariant-loop : goal.invariant-loop
invariant-loop l = record {
  can : CanBeImproved l.self;
  same : HasSameOffers l.fn.self l.self;
  improved : IsImproved l.fn.self.assignment l.self.assignment;
}

abbrev pub decreases-loop : goal.decreases-loop
decreases-loop l = sum_by (λ x. x * x) l.self.assignment.loads.items
