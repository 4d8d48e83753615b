use Rattle.std.proofs.Common.{◌≡◌, ◌<◌, ℕ, List, [], true, set, arith, sym, ◌∙◌, ap, subst, length, get_or, below_more, length-set}
use Rattle.std.specs.Prelude.{Contains, is_some}
use Rattle.std.proofs.lemmas.Bool.{OnTrue_at, OnFalse_at}
use Rattle.std.proofs.lemmas.List.{get_or_default}
use Rattle.std.proofs.lemmas.List.Elements.{Contains-get_or}
use Rattle.route_model.specs.Placement.{is_reached, Offers}
use Rattle.route_solve.specs.Graphs.{capacity, edges}
use Rattle.route_solve.specs.Capacities.{at}
use Rattle.route_solve.proofs.Reaching.{longer_still, held_still, closed_more, kept_set, marked_now}
use Rattle.route_solve.proofs.hall.HallSearch.visit.Goals as goal

-- what the loop reads is offered
offered : (offers : List (List ℕ)) (l k : ℕ) (items : List ℕ) → get_or offers l [] ≡ items → k < length items → Offers offers l (get_or items k 0)
offered offers l k items e b = subst (λ (xs : List ℕ). Contains xs (get_or items k 0)) (sym e) (Contains-get_or items k 0 b)

pub index-requires-in-loop-i : goal.index-requires-in-loop-i
index-requires-in-loop-i c =
    let o = offered (edges c.args.graph.now) (at c.args.self.now.queue.items c.args.pos) c.loop-i.i-index c.deref-offers.result.now c.loop-i.invariant.items c.loop-i-test.true in
    let b = c.requires.graph.below _ _ o in
    let e = c.loop-i.invariant.search.sized.seen in
    omega arith

pub has_room-requires-clause-known : goal.has_room-requires-clause-known
has_room-requires-clause-known c =
    let o = offered (edges c.args.graph.now) (at c.args.self.now.queue.items c.args.pos) c.loop-i.i-index c.deref-offers.result.now c.loop-i.invariant.items c.loop-i-test.true in
    let b = c.requires.graph.below _ _ o in
    let e = c.requires.matching.interrupts in
    let d = ap length c.deref-counts.ensures.value in
    omega arith

pub reach-requires-clause-offered : goal.reach-requires-clause-offered
reach-requires-clause-offered c =
    let inv = c.loop-i.invariant in
    let longer = inv.further.longer in
    let o = offered (edges c.args.graph.now) (at c.args.self.now.queue.items c.args.pos) c.loop-i.i-index c.deref-offers.result.now inv.items c.loop-i-test.true in
    (c.args.pos, (let a = longer.longer in let b = c.requires.pos in omega arith), subst (λ l. Offers (edges c.args.graph.now) l (get_or c.deref-offers.result.now c.loop-i.i-index 0)) (sym (longer.kept c.args.pos c.requires.pos)) o)

pub index_mut-requires : goal.index_mut-requires
index_mut-requires c =
    let o = offered (edges c.args.graph.now) (at c.args.self.now.queue.items c.args.pos) c.loop-i.i-index c.deref-offers.result.now c.loop-i.invariant.items c.loop-i-test.true in
    let b = c.requires.graph.below _ _ o in
    let e = c.reach.ensures.search.sized.seen in
    omega arith

pub loop-i-preserved-then-index : goal.loop-i-preserved-then-index
loop-i-preserved-then-index c =
    let inv = c.loop-i.invariant in
    let seen = c.loop-i.self.seen.items in
    let i = get_or c.deref-offers.result.now c.loop-i.i-index 0 in
    let o = offered (edges c.args.graph.now) (at c.args.self.now.queue.items c.args.pos) c.loop-i.i-index c.deref-offers.result.now inv.items c.loop-i-test.true in
    let b = c.requires.graph.below _ _ o in
    let known : i < length seen = let e = inv.search.sized.seen in omega arith in
    record {
      items = inv.items;
      search = inv.search;
      further = inv.further;
      held = inv.held;
      done = below_more (λ k. is_reached seen (get_or c.deref-offers.result.now k 0) ≡ true) c.loop-i.i-index inv.done (get_or_default seen i _ c.index-in-loop-i.result.now known ∙ (sym c.index-in-loop-i.ensures ∙ c.if-index.true));
    }

pub returns-then-has_room-clause-done : goal.returns-then-has_room-clause-done
returns-then-has_room-clause-done c =
    let i = get_or c.deref-offers.result.now c.loop-i.i-index 0 in
    let o = offered (edges c.args.graph.now) (at c.args.self.now.queue.items c.args.pos) c.loop-i.i-index c.deref-offers.result.now c.loop-i.invariant.items c.loop-i-test.true in
    let b = c.requires.graph.below _ _ o in
    let f = c.requires.matching.interrupts in
    let yes = OnTrue_at c.if-has_room.true c.has_room.ensures.yes in
    let d = ap (λ xs. at xs i) c.deref-counts.ensures.value in
    (o, let e = c.requires.matching.counted i (omega arith) in omega arith)

pub loop-i-preserved : goal.loop-i-preserved
loop-i-preserved c =
    let inv = c.loop-i.invariant in
    let g = c.args.graph.now in
    let p = c.args.matching.now.choice.items in
    let s0 = c.args.self.now in
    let s1 = c.loop-i.self in
    let s2 = c.reach.new.self in
    let i = get_or c.deref-offers.result.now c.loop-i.i-index 0 in
    let o = offered (edges g) (at s0.queue.items c.args.pos) c.loop-i.i-index c.deref-offers.result.now inv.items c.loop-i-test.true in
    let b = c.requires.graph.below _ _ o in
    let f = c.requires.matching.interrupts in
    let full = OnFalse_at c.if-has_room.false c.has_room.ensures.no in
    let d = ap (λ xs. at xs i) c.deref-counts.ensures.value in
    let r = c.reach.ensures in
    let known : i < length s2.seen.items = let e = r.search.sized.seen in omega arith in
    let kept = kept_set s2.seen.items i known in
    record {
      items = inv.items;
      search = record {
        sized = record { marks = r.search.sized.marks; queue = r.search.sized.queue; seen = length-set s2.seen.items i true ∙ r.search.sized.seen };
        trail = r.search.trail;
        listed = r.search.listed;
        closed = closed_more (capacity g) p g.low s2.reached.items s2.reached.items s2.seen.items i known (λ k h. h) r.search.closed (record { full = let e = c.requires.matching.counted i (omega arith) in omega arith; holders = r.holders });
      };
      further = record {
        longer = longer_still s0.queue.items s0.tail s1.queue.items s1.tail s2.queue.items s2.tail inv.further.longer r.further.longer;
        reached = λ k h. r.further.reached k (inv.further.reached k h);
        seen = λ k h. kept k (r.further.seen k (inv.further.seen k h));
      };
      held = held_still p s1.queue.items s1.tail s2.queue.items s2.tail s0.tail inv.further.longer.longer r.further.longer inv.held (λ k le bk. ap is_some (r.held k le bk));
      done = below_more (λ k. is_reached (set s2.seen.items i true) (get_or c.deref-offers.result.now k 0) ≡ true) c.loop-i.i-index (λ k bk. kept _ (r.further.seen _ (inv.done k bk))) (marked_now s2.seen.items i known);
    }

pub returns-clause-done : goal.returns-clause-done
returns-clause-done c i o =
    let inv = c.loop-i.invariant in
    let items = c.deref-offers.result.now in
    let w = subst (λ (xs : List ℕ). Contains xs i) inv.items o in
    subst (λ m. is_reached c.loop-i.self.seen.items m ≡ true) (get_or_default items w.0 0 i w.1 ∙ w.2) (inv.done w.0 (let b = w.1 in let t = c.loop-i-test.false in omega arith))
