use Rattle.std.proofs.Common.{arith}
use Rattle.std.specs.Prelude.{Contains}
use Rattle.route_model.specs.Links.{paths_of}
use Rattle.route_check.proofs.Loops.{all_done, all_more, all_failed_at, shown, refuted}
use Rattle.route_check.proofs.known.all_links.Goals as goal

pub loop-path-preserved : goal.loop-path-preserved
loop-path-preserved c = all_more (Contains (paths_of c.args.links.now)) c.args.paths.now c.loop-path.path-index c.path-item.result (omega arith) c.path-item.is c.loop-path.invariant (shown c.has_path.result c.has_path.ensures c.if-not-has_path.false)

pub returns-then-not-has_path : goal.returns-then-not-has_path
returns-then-not-has_path c = all_failed_at (Contains (paths_of c.args.links.now)) c.args.paths.now c.loop-path.path-index c.path-item.result (omega arith) c.path-item.is (refuted c.has_path.result c.has_path.ensures c.if-not-has_path.true)

pub returns : goal.returns
returns c = all_done (Contains (paths_of c.args.links.now)) c.args.paths.now c.loop-path.path-index (omega arith) c.loop-path.invariant
