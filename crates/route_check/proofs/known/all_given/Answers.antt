use Rattle.std.proofs.Common.{arith}
use Rattle.std.specs.Prelude.{Contains}
use Rattle.route_check.specs.Valid.{keys_of}
use Rattle.route_check.proofs.Loops.{all_done, all_more, all_failed_at, shown, refuted}
use Rattle.route_check.proofs.known.all_given.Goals as goal

pub loop-link-preserved : goal.loop-link-preserved
loop-link-preserved c = all_more (λ x. Contains (keys_of c.args.gives.now) x.path) c.args.links.now c.loop-link.link-index c.link-item.result (omega arith) c.link-item.is c.loop-link.invariant (shown c.has_path.result (rw c.path.ensures at c.has_path.ensures) c.if-not-has_path.false)

pub returns-then-not-has_path : goal.returns-then-not-has_path
returns-then-not-has_path c = all_failed_at (λ x. Contains (keys_of c.args.gives.now) x.path) c.args.links.now c.loop-link.link-index c.link-item.result (omega arith) c.link-item.is (refuted c.has_path.result (rw c.path.ensures at c.has_path.ensures) c.if-not-has_path.true)

pub returns : goal.returns
returns c = all_done (λ x. Contains (keys_of c.args.gives.now) x.path) c.args.links.now c.loop-link.link-index (omega arith) c.loop-link.invariant
