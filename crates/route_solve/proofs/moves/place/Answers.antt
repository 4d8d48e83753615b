use Rattle.std.proofs.Common.{◌≡◌, ◌<◌, ℕ, List, [], get_or, length, arith, sym, ◌∙◌, ap, subst}
use Rattle.std.specs.Global.{Vec}
use Rattle.std.specs.Prelude.{Contains}
use Rattle.route_model.specs.Placement.{Offers}
use Rattle.route_solve.specs.Graphs.{capacity, edges}
use Rattle.route_solve.specs.Capacities.{at}
use Rattle.route_solve.proofs.Exchange.{moved_directly}
use Rattle.route_solve.proofs.Matched.{matched}
use Rattle.route_numbers.proofs.Numbered.{lists_at}
use Rattle.route_solve.proofs.moves.place.Goals as goal

pub first_free-requires-clause-known : goal.first_free-requires-clause-known
first_free-requires-clause-known c i w =
    let g = c.args.graph.now in
    let items : get_or (edges g) c.args.link [] ≡ c.deref-2.result.now = lists_at g.offers.now c.args.link c.index-graph-link.result (let b = c.requires.link.within in let e = c.requires.matching.links in omega arith) c.index-graph-link.is ∙ (ap (λ (v : Vec ℕ). v.items) c.index-graph-link.is ∙ sym c.deref-2.ensures.value) in
    let b = c.requires.graph.below c.args.link i (subst (λ (xs : List ℕ). Contains xs i) (sym items) w) in
    let e = c.requires.matching.interrupts in
    let d = ap length c.deref.ensures.value in
    omega arith

pub give-requires-clause-known : goal.give-requires-clause-known
give-requires-clause-known c =
    let g = c.args.graph.now in
    let items : get_or (edges g) c.args.link [] ≡ c.deref-2.result.now = lists_at g.offers.now c.args.link c.index-graph-link.result (let b = c.requires.link.within in let e = c.requires.matching.links in omega arith) c.index-graph-link.is ∙ (ap (λ (v : Vec ℕ). v.items) c.index-graph-link.is ∙ sym c.deref-2.ensures.value) in
    let b = c.requires.graph.below c.args.link c.in-Some.i (subst (λ (xs : List ℕ). Contains xs c.in-Some.i) (sym items) c.in-Some.ensures.0) in
    let e = c.requires.matching.interrupts in
    omega arith

pub returns-in-Some-clause-matching : goal.returns-in-Some-clause-matching
returns-in-Some-clause-matching c =
    let g = c.args.graph.now in
    let m = c.args.matching.now in
    let items : get_or (edges g) c.args.link [] ≡ c.deref-2.result.now = lists_at g.offers.now c.args.link c.index-graph-link.result (let b = c.requires.link.within in let e = c.requires.matching.links in omega arith) c.index-graph-link.is ∙ (ap (λ (v : Vec ℕ). v.items) c.index-graph-link.is ∙ sym c.deref-2.ensures.value) in
    let i = c.in-Some.i in
    let o : Offers (edges g) c.args.link i = subst (λ (xs : List ℕ). Contains xs i) (sym items) c.in-Some.ensures.0 in
    let known : i < length m.counts.items = let b = c.requires.graph.below c.args.link i o in let e = c.requires.matching.interrupts in omega arith in
    let e = c.requires.matching.counted i known in
    let f = c.in-Some.ensures.1 in
    let d = ap (λ xs. at xs i) c.deref.ensures.value in
    matched g.offers.now g.sources.now g.limit c.give.new.self (c.give.ensures.same ∙ c.requires.matching.interrupts) c.give.ensures.counted (rw c.give.ensures.given (moved_directly (edges g) (capacity g) m.choice.items [] c.args.link i c.requires.link.within c.requires.matching.placed o (omega arith)).placed)
