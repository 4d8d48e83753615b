use Rattle.std.proofs.Common.{◌<◌, ◌+◌, ◌∙◌, length, sym, subst, arith, below_more, length-set}
use Rattle.route_solve.specs.First.{IsLeastAt}
use Rattle.route_solve.specs.Graphs.{capacity, edges}
use Rattle.route_solve.specs.Capacities.{at, IsCounted}
use Rattle.route_solve.proofs.Counts.{counted_next}
use Rattle.route_solve.proofs.Firsts.{least_kept}
use Rattle.route_solve.proofs.first.fix_all.Goals as goal

pub count_one-requires-clause-known : goal.count_one-requires-clause-known
count_one-requires-clause-known c = let b = c.requires.graph.below _ _ (c.fix.ensures.matching.matching.placed.offered _ _ c.held.ensures) in let a = c.loop-link.invariant.kept.long in omega arith

pub loop-link-preserved : goal.loop-link-preserved
loop-link-preserved c =
    let inv = c.loop-link.invariant in
    let kept = c.loop-link.kept in
    let q = c.fix.new.matching.choice.items in
    let x = c.held.result in
    let link = c.loop-link.link in
    let known : x < length kept = let b = c.requires.graph.below _ _ (c.fix.ensures.matching.matching.placed.offered _ _ c.held.ensures) in let a = inv.kept.long in omega arith in
    let bound : link < length q = let a = c.fix.ensures.matching.matching.links in let b = c.requires.matching.matching.links in let l = c.len-link-end.ensures in let t = c.loop-link-test.true in omega arith in
    record {
      matching = c.fix.ensures.matching;
      sized = c.fix.ensures.sized;
      kept = record {
        long = rw c.count_one.ensures (length-set kept x (at kept x + 1) ∙ inv.kept.long);
        counted = rw c.count_one.ensures (counted_next kept q link x bound known c.held.ensures (subst (IsCounted kept) (sym c.fix.ensures.kept) inv.kept.counted));
      };
      least = below_more (IsLeastAt (edges c.args.graph.now) (capacity c.args.graph.now) q) link
          (λ k b. least_kept (edges c.args.graph.now) (capacity c.args.graph.now) c.loop-link.matching.choice.items q link k b c.fix.ensures.kept (inv.least k b))
          c.fix.ensures.least;
    }
