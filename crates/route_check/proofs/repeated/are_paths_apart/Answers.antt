use Rattle.std.proofs.Common.{arith}
use Rattle.route_check.proofs.Loops.{distinct_keys_more, distinct_keys_failed, distinct_keys_done, refuted, no, shown}
use Rattle.route_check.proofs.repeated.are_paths_apart.Goals as goal

pub loop-i-preserved : goal.loop-i-preserved
loop-i-preserved g c = distinct_keys_more g.T.Named.path c.args.xs.now c.loop-i.i c.index-xs-i.result (omega arith) c.index-xs-i.is c.loop-i.invariant (refuted c.is_among_paths.result (rw c.name.ensures at c.is_among_paths.ensures) c.if-is_among_paths.false)

pub returns-then-is_among_paths : goal.returns-then-is_among_paths
returns-then-is_among_paths g c = no (distinct_keys_failed g.T.Named.path c.args.xs.now c.loop-i.i c.index-xs-i.result (omega arith) c.index-xs-i.is (shown c.is_among_paths.result (rw c.name.ensures at c.is_among_paths.ensures) c.if-is_among_paths.true))

pub returns : goal.returns
returns g c = distinct_keys_done g.T.Named.path c.args.xs.now c.loop-i.i (omega arith) c.loop-i.invariant
