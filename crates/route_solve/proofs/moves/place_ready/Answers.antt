use Rattle.std.proofs.Common.{◌≡◌, ◌<◌, ℕ, Bool, List, [], true, get_or, length, take, arith, sym, ◌∙◌, ap, subst}
use Rattle.std.specs.Global.{Vec}
use Rattle.std.specs.Prelude.{Contains}
use Rattle.route_model.specs.Placement.{is_reached}
use Rattle.route_solve.specs.declared.ways.Way.{Way}
use Rattle.route_solve.specs.Graphs.{capacity, edges}
use Rattle.route_solve.specs.Ready.{ready_at, AreWays}
use Rattle.route_numbers.proofs.Numbered.{lists_at}
use Rattle.route_solve.proofs.Searching.{listed_first, ways_first}
use Rattle.route_solve.proofs.moves.place_ready.Goals as goal

pub first_ready-requires : goal.first_ready-requires
first_ready-requires c i w =
    let g = c.args.graph.now in
    let items : get_or (edges g) c.args.link [] ≡ c.deref-offers.result.now = lists_at g.offers.now c.args.link c.index-graph-link.result (let b = c.requires.link.within in let e = c.requires.matching.links in omega arith) c.index-graph-link.is ∙ (ap (λ (v : Vec ℕ). v.items) c.index-graph-link.is ∙ sym c.deref-offers.ensures.value) in
    let b = c.requires.graph.below c.args.link i (subst (λ (xs : List ℕ). Contains xs i) (sym items) w) in
    let e = c.run.ensures.search.sized.marks in
    let d = ap length c.deref.ensures.value in
    omega arith

pub way_of-start-requires : goal.way_of-start-requires
way_of-start-requires c =
    let s = c.run.new.self in
    let h = c.run.ensures.search.search in
    let i = get_or c.deref-offers.result.now c.in_ok-k.k 0 in
    let marked : is_reached s.visited.items i ≡ true = subst (λ (bs : List Bool). is_reached bs i ≡ true) c.deref.ensures.value c.in_ok-k.ensures.1 in
    subst (λ (ws : List Way). (k : ℕ) × (k < length (take s.found ws)) × (ready_at (take s.found ws) k ≡ i)) (sym c.deref-2.ensures.value)
    (listed_first s.ways.items s.found i (let a = h.counted in let b = h.fits in omega arith) (h.listed i marked))

pub augment-requires-clause-ways : goal.augment-requires-clause-ways
augment-requires-clause-ways c =
    let g = c.args.graph.now in
    let p = c.args.matching.now.choice.items in
    let s = c.run.new.self in
    let h = c.run.ensures.search.search in
    subst (λ (ws : List Way). AreWays (edges g) (capacity g) p g.low (take s.found ws) (length (take s.found ws))) (sym c.deref-2.ensures.value)
    (ways_first (edges g) (capacity g) p g.low s.ways.items s.found (let a = h.counted in let b = h.fits in omega arith) h.all)
