use Rattle.std.proofs.Common.{◌≡◌, ℕ, List, Option, Some, arith, ap, subst, ◌∙◌}
use Rattle.route_model.specs.Links.{offers_of}
use Rattle.route_model.specs.Placement.{place_of}
use Rattle.route_model.proofs.Offers.{offers_length}
use Rattle.route_solve.specs.Named.{named}
use Rattle.route_solve.specs.Graphs.{edges}
use Rattle.route_solve.proofs.Least.{first_least}
use Rattle.route_solve.proofs.Assigned.{placed_by_number, within_least_by_number, least_by_number, sources_below}
use Rattle.route_solve.proofs.Represented.{represented}
use Rattle.route_solve.proofs.assign.assign.Goals as goal

pub place_all-limit-requires-clause-graph : goal.place_all-limit-requires-clause-graph
place_all-limit-requires-clause-graph c = let g = c.args.graph.now in let o = c.args.offered.now in represented o.problem.now o.numbers.now g.offers.now g.rows.now g.sources.now c.requires.fits c.requires.graph

pub place_all-limit-requires-clause-wired : goal.place_all-limit-requires-clause-wired
place_all-limit-requires-clause-wired c =
    let g = c.args.graph.now in
    let o = c.args.offered.now in
    let n = c.requires.graph in
    sources_below (offers_of o.problem.now.links) o.problem.now.wired o.numbers.now (edges g) g.sources.now n.ascending n.numbered n.wired g.limit c.requires.floor.above

pub fix_all-requires-clause-graph : goal.fix_all-requires-clause-graph
fix_all-requires-clause-graph c = let g = c.args.graph.now in let o = c.args.offered.now in represented o.problem.now o.numbers.now g.offers.now g.rows.now g.sources.now c.requires.fits c.requires.graph

pub write_out-requires-clause-known : goal.write_out-requires-clause-known
write_out-requires-clause-known c k i h =
    let placed = c.fix_all.ensures.matching.matching.placed in
    c.requires.graph.numbered.below k i (placed.offered k i (subst (λ (q : List (Option ℕ)). place_of q k ≡ Some i) c.deref.ensures.value h))

pub returns-clause-first_least : goal.returns-clause-first_least
returns-clause-first_least c =
    let g = c.args.graph.now in
    let p = c.args.offered.now.problem.now in
    let offers = offers_of p.links in
    let numbers = c.args.offered.now.numbers.now in
    let n = c.requires.graph in
    let choice = c.fix_all.new.matching.choice.items in
    let placement = named numbers choice in
    (first_least offers p.wired g.limit c.place_all-limit.result placement c.write_out.new.given placement c.place_all-limit.new.buffers.hall.reached.items
    c.requires.floor.reached c.requires.floor.above
    (within_least_by_number offers p.wired numbers (edges g) g.sources.now n.ascending n.numbered n.wired g.limit c.place_all-limit.result choice c.place_all-limit.new.buffers.hall.reached.items c.fix_all.ensures.matching.matching.placed c.place_all-limit.ensures.least.above c.place_all-limit.ensures.least.shown)
    (c.write_out.ensures ∙ ap (named numbers) c.deref.ensures.value)
    (placed_by_number offers p.wired numbers (edges g) g.sources.now n.ascending n.numbered n.wired c.place_all-limit.result choice c.fix_all.ensures.matching.matching.placed)
    (λ l b. least_by_number offers p.wired numbers (edges g) g.sources.now n.ascending n.numbered n.wired c.place_all-limit.result choice c.fix_all.ensures.matching.matching.placed l (c.fix_all.ensures.least l (let long = offers_length p.links in let e = n.long in omega arith)))).0

pub returns-clause-busiest : goal.returns-clause-busiest
returns-clause-busiest c =
    let g = c.args.graph.now in
    let p = c.args.offered.now.problem.now in
    let offers = offers_of p.links in
    let numbers = c.args.offered.now.numbers.now in
    let n = c.requires.graph in
    let choice = c.fix_all.new.matching.choice.items in
    let placement = named numbers choice in
    (first_least offers p.wired g.limit c.place_all-limit.result placement c.write_out.new.given placement c.place_all-limit.new.buffers.hall.reached.items
    c.requires.floor.reached c.requires.floor.above
    (within_least_by_number offers p.wired numbers (edges g) g.sources.now n.ascending n.numbered n.wired g.limit c.place_all-limit.result choice c.place_all-limit.new.buffers.hall.reached.items c.fix_all.ensures.matching.matching.placed c.place_all-limit.ensures.least.above c.place_all-limit.ensures.least.shown)
    (c.write_out.ensures ∙ ap (named numbers) c.deref.ensures.value)
    (placed_by_number offers p.wired numbers (edges g) g.sources.now n.ascending n.numbered n.wired c.place_all-limit.result choice c.fix_all.ensures.matching.matching.placed)
    (λ l b. least_by_number offers p.wired numbers (edges g) g.sources.now n.ascending n.numbered n.wired c.place_all-limit.result choice c.fix_all.ensures.matching.matching.placed l (c.fix_all.ensures.least l (let long = offers_length p.links in let e = n.long in omega arith)))).1

pub returns-clause-limit : goal.returns-clause-limit
returns-clause-limit c =
    let g = c.args.graph.now in
    let p = c.args.offered.now.problem.now in
    let offers = offers_of p.links in
    let numbers = c.args.offered.now.numbers.now in
    let n = c.requires.graph in
    let choice = c.fix_all.new.matching.choice.items in
    let placement = named numbers choice in
    record {
      small = let a = c.place_all-limit.ensures.least.small in let b = c.requires.floor.small in omega arith;
      marks = let a = c.place_all-limit.ensures.sized.hall.marks in let b = n.long in omega arith;
      placement = placement;
      within_least = within_least_by_number offers p.wired numbers (edges g) g.sources.now n.ascending n.numbered n.wired g.limit c.place_all-limit.result choice c.place_all-limit.new.buffers.hall.reached.items c.fix_all.ensures.matching.matching.placed c.place_all-limit.ensures.least.above c.place_all-limit.ensures.least.shown;
    }
