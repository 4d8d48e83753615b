use Rattle.std.proofs.Common.{arith}
use Rattle.std.specs.Prelude.{Contains, All}
use Rattle.route_model.specs.Avoided.{without}
use Rattle.route_check.proofs.Loops.{all_done, all_more, all_failed_at, shown, refuted}
use Rattle.route_check.proofs.bound.are_inside.Goals as goal

pub loop-link-preserved : goal.loop-link-preserved
loop-link-preserved c = all_more (λ x. Contains c.args.set.now.links.now x.path → All (Contains c.args.set.now.interrupts.now) (without c.args.set.now.avoided x.offers)) c.args.links.now c.loop-link.link-index c.link-item.result (omega arith) c.link-item.is c.loop-link.invariant (shown c.is_inside.result c.is_inside.ensures c.if-not-is_inside.false)

pub returns-then-not-is_inside : goal.returns-then-not-is_inside
returns-then-not-is_inside c = all_failed_at (λ x. Contains c.args.set.now.links.now x.path → All (Contains c.args.set.now.interrupts.now) (without c.args.set.now.avoided x.offers)) c.args.links.now c.loop-link.link-index c.link-item.result (omega arith) c.link-item.is (refuted c.is_inside.result c.is_inside.ensures c.if-not-is_inside.true)

pub returns : goal.returns
returns c = all_done (λ x. Contains c.args.set.now.links.now x.path → All (Contains c.args.set.now.interrupts.now) (without c.args.set.now.avoided x.offers)) c.args.links.now c.loop-link.link-index (omega arith) c.loop-link.invariant
