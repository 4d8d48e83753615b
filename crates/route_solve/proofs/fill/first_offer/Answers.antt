use Rattle.std.proofs.Common.{◌≡◌, ℕ, List, [], get_or, length, arith, sym, ◌∙◌, ap, subst}
use Rattle.std.specs.Global.{Vec}
use Rattle.std.specs.Prelude.{Contains}
use Rattle.std.proofs.lemmas.List.Elements.{Contains-get_or}
use Rattle.route_solve.specs.Graphs.{edges}
use Rattle.route_numbers.proofs.Numbered.{lists_at}
use Rattle.route_solve.proofs.fill.first_offer.Goals as goal

pub bounds-items-0 : goal.bounds-items-0
bounds-items-0 c =
    let items : get_or (edges c.args.graph.now) c.args.link [] ≡ c.deref-items.result.now = lists_at c.args.graph.now.offers.now c.args.link c.index-graph-link.result c.requires.link c.index-graph-link.is ∙ (ap (λ (v : Vec ℕ). v.items) c.index-graph-link.is ∙ sym c.deref-items.ensures.value) in
    let some = c.requires.graph.some c.args.link c.requires.link in
    let long = ap length items in
    omega arith

pub returns : goal.returns
returns c =
    let items : get_or (edges c.args.graph.now) c.args.link [] ≡ c.deref-items.result.now = lists_at c.args.graph.now.offers.now c.args.link c.index-graph-link.result c.requires.link c.index-graph-link.is ∙ (ap (λ (v : Vec ℕ). v.items) c.index-graph-link.is ∙ sym c.deref-items.ensures.value) in
    let some = c.requires.graph.some c.args.link c.requires.link in
    let long = ap length items in
    subst (λ (xs : List ℕ). Contains xs (get_or c.deref-items.result.now 0 0)) (sym items) (Contains-get_or c.deref-items.result.now 0 0 (omega arith))
