use Rattle.std.proofs.Common.{inl, inr}
use Rattle.route_check.proofs.Loops.{shown}
use Rattle.route_check.proofs.Proved.{proved}
use Rattle.route_check.proofs.checked.check.Goals as goal

pub returns-then-busiest-eq0-clause-proved : goal.returns-then-busiest-eq0-clause-proved
returns-then-busiest-eq0-clause-proved c =
    proved c.args.claim.now (record {
      none_repeated = shown c.none_repeated.result c.none_repeated.ensures c.if-not-none_repeated.false;
      none_missing = shown c.none_missing.result c.none_missing.ensures c.if-not-none_missing.false;
      all_offered = shown c.all_offered.result c.all_offered.ensures c.if-not-all_offered.false;
      busiest_right = shown c.is_busiest_right.result c.is_busiest_right.ensures c.if-not-is_busiest_right.false;
      bound = inl (rw c.busiest.ensures at c.if-busiest-eq0.true);
    })

pub returns-clause-proved : goal.returns-clause-proved
returns-clause-proved c =
    proved c.args.claim.now (record {
      none_repeated = shown c.none_repeated.result c.none_repeated.ensures c.if-not-none_repeated.false;
      none_missing = shown c.none_missing.result c.none_missing.ensures c.if-not-none_missing.false;
      all_offered = shown c.all_offered.result c.all_offered.ensures c.if-not-all_offered.false;
      busiest_right = shown c.is_busiest_right.result c.is_busiest_right.ensures c.if-not-is_busiest_right.false;
      bound = inr (shown c.has_interrupt.result c.has_interrupt.ensures c.if-not-has_interrupt.false, shown c.offers_inside.result c.offers_inside.ensures c.if-not-offers_inside.false, shown c.is_crowded.result c.is_crowded.ensures c.if-not-is_crowded.false);
    })
