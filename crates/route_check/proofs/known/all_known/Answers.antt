use Rattle.std.proofs.Common.{arith}
use Rattle.std.specs.Prelude.{Contains}
use Rattle.route_model.specs.Links.{paths_of}
use Rattle.route_check.proofs.Loops.{all_done, all_more, all_failed_at, shown, refuted}
use Rattle.route_check.proofs.known.all_known.Goals as goal

pub loop-give-preserved : goal.loop-give-preserved
loop-give-preserved c = all_more (λ x. Contains (paths_of c.args.links.now) x.0) c.args.gives.now c.loop-give.give-index c.give-item.result (omega arith) c.give-item.is c.loop-give.invariant (shown c.has_path.result c.has_path.ensures c.if-not-has_path.false)

pub returns-then-not-has_path : goal.returns-then-not-has_path
returns-then-not-has_path c = all_failed_at (λ x. Contains (paths_of c.args.links.now) x.0) c.args.gives.now c.loop-give.give-index c.give-item.result (omega arith) c.give-item.is (refuted c.has_path.result c.has_path.ensures c.if-not-has_path.true)

pub returns : goal.returns
returns c = all_done (λ x. Contains (paths_of c.args.links.now) x.0) c.args.gives.now c.loop-give.give-index (omega arith) c.loop-give.invariant
