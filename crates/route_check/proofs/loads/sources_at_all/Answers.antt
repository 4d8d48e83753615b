use Rattle.std.proofs.Common.{arith, ◌^◌, ◌-◌}
use Rattle.route_model.specs.Routing.{wired_to}
use Rattle.route_check.specs.Valid.{effective_counts}
use Rattle.route_check.proofs.Sums.{capped_more}
use Rattle.route_check.proofs.loads.sources_at_all.Goals as goal

pub loop-n-preserved : goal.loop-n-preserved
loop-n-preserved c =
    let more = capped_more (2 ^ 128 - 1) (wired_to (effective_counts c.args.claim.now)) c.args.interrupts.now c.loop-n.n-index 0 c.loop-n.total (omega arith) c.loop-n.invariant in
    let e = c.saturating_add-total.ensures in
    let f = c.sources_at.ensures.value in
    omega arith
