use Rattle.std.proofs.Common.{arith, sym, ◌≢◌}
use Rattle.std.proofs.lemmas.List.{take_all}
use Rattle.std.proofs.lemmas.List.Elements.{All-same}
use Rattle.route_check.proofs.Loops.{none_found, found_at_element, all_more, yes, no, shown, refuted}
use Rattle.route_check.proofs.search.is_among_paths.Goals as goal

pub loop-x-preserved : goal.loop-x-preserved
loop-x-preserved g c = all_more (λ x. g.T.Named.path x ≢ c.args.path.now) c.args.xs.now c.loop-x.x-index c.x-item.result (omega arith) c.x-item.is c.loop-x.invariant (refuted c.is_same.result (rw c.name.ensures at c.is_same.ensures.same) c.if-is_same.false)

pub returns-then-is_same : goal.returns-then-is_same
returns-then-is_same g c = yes (found_at_element g.T.Named.path c.args.xs.now c.loop-x.x-index c.x-item.result c.args.path.now (omega arith) c.x-item.is (shown c.is_same.result (rw c.name.ensures at c.is_same.ensures.same) c.if-is_same.true))

pub returns : goal.returns
returns g c = no (none_found g.T.Named.path c.args.xs.now c.args.path.now (All-same (λ x. g.T.Named.path x ≢ c.args.path.now) _ _ (sym (take_all c.loop-x.x-index c.args.xs.now (omega arith))) c.loop-x.invariant))
