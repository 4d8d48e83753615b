use Rattle.std.proofs.Common.{◌≡◌, ◌<◌, Bool, true, false, length, arith, refl}
use Rattle.std.specs.Bool.{OnTrue}
use Rattle.std.proofs.lemmas.Bool.{OnTrue_at}
use Rattle.route_solve.specs.First.{IsLeastAt}
use Rattle.route_solve.specs.Graphs.{capacity, edges}
use Rattle.route_solve.proofs.Fixing.{open_offered, open_least}
use Rattle.route_solve.proofs.first.fix_directly.Goals as goal

pub shift-requires-clause-offered : goal.shift-requires-clause-offered
shift-requires-clause-offered c = open_offered (edges c.args.graph.now) (capacity c.args.graph.now) c.args.kept.now c.args.link c.in-Some.i c.in-Some.ensures

pub returns-in-Some-clause-least : goal.returns-in-Some-clause-least
returns-in-Some-clause-least c = go c.shift.result refl
  where
    bound : c.args.link < length c.args.graph.now.offers.now
    bound = let b = c.requires.link in let e = c.requires.matching.matching.links in omega arith

    go : (b : Bool) → c.shift.result ≡ b → OnTrue b (IsLeastAt (edges c.args.graph.now) (capacity c.args.graph.now) c.shift.new.matching.choice.items c.args.link)
    go false e = tt
    go true e =
        open_least (edges c.args.graph.now) (capacity c.args.graph.now) c.args.kept.now c.args.matching.now.choice.items c.shift.new.matching.choice.items c.args.link c.in-Some.i c.in-Some.ensures c.requires.kept.counted
        (λ n o. let b = c.requires.graph.below c.args.link n o in let f = c.requires.kept.long in omega arith)
        c.shift.ensures.kept (c.requires.graph.ascending c.args.link bound) (OnTrue_at e c.shift.ensures.given)
