use Rattle.std.proofs.Common.{sym, arith}
use Rattle.route_solve.specs.Graphs.{capacity, edges}
use Rattle.route_solve.proofs.Fixing.{freed_placed, fixed_whole, fixed_front, fixed_least}
use Rattle.route_solve.proofs.Matched.{matched}
use Rattle.route_solve.proofs.first.fix_by_search.Goals as goal

pub free-requires-clause-known : goal.free-requires-clause-known
free-requires-clause-known c =
    let b = c.requires.graph.below _ _ (c.requires.matching.matching.placed.offered _ _ c.held-x.ensures) in
    let e = c.requires.matching.matching.interrupts in
    omega arith

pub place_ready-requires-clause-matching : goal.place_ready-requires-clause-matching
place_ready-requires-clause-matching c =
    let g = c.args.graph.now in
    let old = c.requires.matching.matching in
    matched g.offers.now g.sources.now g.limit c.free.new.self (let a = c.free.ensures.same in let b = old.interrupts in omega arith) c.free.ensures.counted (rw c.free.ensures.freed (freed_placed (edges g) (capacity g) c.args.matching.now.choice.items c.args.link c.requires.link old.placed))

pub returns-clause-matching : goal.returns-clause-matching
returns-clause-matching c = record {
  matching = c.place_ready.ensures.matching;
  whole = fixed_whole (edges c.args.graph.now) (capacity c.args.graph.now) c.args.matching.now.choice.items c.args.link c.held-x.result c.requires.link c.requires.matching.matching.placed c.requires.matching.whole c.held-x.ensures c.place_ready.new.search.visited.items (λ k n o. let b = c.requires.graph.below k n o in let e = c.place_ready.ensures.sized.marks in omega arith) (rw (sym c.free.ensures.freed) c.place_ready.ensures.ready) c.place_ready.new.matching.choice.items (let a = c.place_ready.ensures.matching.links in let b = c.requires.matching.matching.links in omega arith) c.place_ready.result c.place_ready.ensures.first (rw (sym c.free.ensures.freed) c.place_ready.ensures.augmented);
}

pub returns-clause-kept : goal.returns-clause-kept
returns-clause-kept c = fixed_front (edges c.args.graph.now) (capacity c.args.graph.now) c.args.matching.now.choice.items c.args.link c.held-x.result c.requires.link c.requires.matching.matching.placed c.requires.matching.whole c.held-x.ensures c.place_ready.new.search.visited.items (λ k n o. let b = c.requires.graph.below k n o in let e = c.place_ready.ensures.sized.marks in omega arith) (rw (sym c.free.ensures.freed) c.place_ready.ensures.ready) c.place_ready.new.matching.choice.items (let a = c.place_ready.ensures.matching.links in let b = c.requires.matching.matching.links in omega arith) c.place_ready.result c.place_ready.ensures.first (rw (sym c.free.ensures.freed) c.place_ready.ensures.augmented)

pub returns-clause-least : goal.returns-clause-least
returns-clause-least c = fixed_least (edges c.args.graph.now) (capacity c.args.graph.now) c.args.matching.now.choice.items c.args.link c.held-x.result c.requires.link c.requires.matching.matching.placed c.requires.matching.whole c.held-x.ensures c.place_ready.new.search.visited.items (λ k n o. let b = c.requires.graph.below k n o in let e = c.place_ready.ensures.sized.marks in omega arith) (rw (sym c.free.ensures.freed) c.place_ready.ensures.ready) c.place_ready.new.matching.choice.items (let a = c.place_ready.ensures.matching.links in let b = c.requires.matching.matching.links in omega arith) c.place_ready.result c.place_ready.ensures.first (rw (sym c.free.ensures.freed) c.place_ready.ensures.augmented) (c.requires.graph.ascending c.args.link (let b = c.requires.link in let e = c.requires.matching.matching.links in omega arith)) (rw (sym c.free.ensures.freed) c.place_ready.ensures.given)
