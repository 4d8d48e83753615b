use Rattle.std.proofs.Common.{◌≡◌, ◌≤◌, ℕ, List, [], get_or, refl, sym, ◌∙◌, ap, subst, below_more, arith}
use Rattle.std.specs.Global.{Vec}
use Rattle.std.specs.Prelude.{Contains}
use Rattle.std.proofs.lemmas.Bool.{OnFalse_at}
use Rattle.std.proofs.lemmas.List.Elements.{Contains-get_or}
use Rattle.route_solve.specs.First.{IsFirstOpen}
use Rattle.route_solve.specs.Graphs.{capacity, edges}
use Rattle.route_solve.specs.Capacities.{at}
use Rattle.route_numbers.proofs.Numbered.{lists_at}
use Rattle.route_solve.proofs.first.first_open.Goals as goal

pub has_room-requires-clause-known : goal.has_room-requires-clause-known
has_room-requires-clause-known c =
    let g = c.args.graph.now in
    let items : get_or (edges g) c.args.link [] ≡ c.deref-offers.result.now = lists_at g.offers.now c.args.link c.index-graph-link.result c.requires.link c.index-graph-link.is ∙ (ap (λ (v : Vec ℕ). v.items) c.index-graph-link.is ∙ sym c.deref-offers.ensures.value) in
    let i : ℕ = get_or c.deref-offers.result.now c.loop-i.i-index 0 in
    let b = c.requires.graph.below c.args.link i (subst (λ (xs : List ℕ). Contains xs i) (sym items) (Contains-get_or c.deref-offers.result.now c.loop-i.i-index 0 c.loop-i-test.true)) in
    let e = c.requires.kept in
    omega arith

pub loop-i-preserved : goal.loop-i-preserved
loop-i-preserved c =
    below_more (λ j. capacity c.args.graph.now (at c.deref-offers.result.now j) ≤ at c.args.kept.now (at c.deref-offers.result.now j)) c.loop-i.i-index c.loop-i.invariant (OnFalse_at c.if-has_room.false c.has_room.ensures.no)

pub returns-then-has_room : goal.returns-then-has_room
returns-then-has_room c =
    let g = c.args.graph.now in
    let items : get_or (edges g) c.args.link [] ≡ c.deref-offers.result.now = lists_at g.offers.now c.args.link c.index-graph-link.result c.requires.link c.index-graph-link.is ∙ (ap (λ (v : Vec ℕ). v.items) c.index-graph-link.is ∙ sym c.deref-offers.ensures.value) in
    subst (λ (xs : List ℕ). IsFirstOpen (capacity g) c.args.kept.now xs (get_or c.deref-offers.result.now c.loop-i.i-index 0)) (sym items)
    (record { place = c.loop-i.i-index; within = c.loop-i-test.true; here = refl; full = c.loop-i.invariant })
