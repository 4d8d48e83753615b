use Rattle.std.proofs.Common.{◌≡◌, None, Some, arith, sym, ◌∙◌}
use Rattle.std.proofs.lemmas.List.{get_or_default}
use Rattle.route_model.specs.Placement.{place_of}
use Rattle.route_solve.specs.Graphs.{edges}
use Rattle.route_numbers.proofs.Numbered.{lists_length, offers_within}
use Rattle.route_solve.proofs.search.Search.visit_link.Goals as goal

pub add_way-requires-clause-known : goal.add_way-requires-clause-known
add_way-requires-clause-known c =
    let g = c.args.graph.now in
    let p = c.args.matching.now.choice.items in
    let b = offers_within (edges g) c.args.link _ c.requires.offered in
    let e = lists_length g.offers.now in
    let f = c.requires.matching.links in
    let held : place_of p c.args.link ≡ Some c.in-Some.interrupt = get_or_default p c.args.link None c.index.result.now (omega arith) ∙ (sym c.index.ensures ∙ c.in-Some.is) in
    c.requires.graph.below c.args.link c.in-Some.interrupt (c.requires.matching.placed.offered c.args.link c.in-Some.interrupt held)
