use Rattle.std.proofs.Common.{◌≡◌, ◌≤◌, ◌<◌, ◌+◌, ℕ, Some, true, arith, sym, ap, subst, inl, inr}
use Rattle.std.specs.Prelude.{◌⊎◌}
use Rattle.std.proofs.lemmas.Bool.{cases_lt}
use Rattle.route_model.specs.Placement.{place_of, is_reached, Offers}
use Rattle.route_solve.specs.declared.ways.Way.{Way}
use Rattle.route_solve.specs.Graphs.{edges}
use Rattle.route_solve.specs.Ready.{ready_at}
use Rattle.route_solve.proofs.search.Search.run.Goals as goal

pub loop-pos-preserved : goal.loop-pos-preserved
loop-pos-preserved c =
    let inv = c.loop-pos.invariant in
    let e = c.visit_from.ensures in
    let t = c.loop-pos-test.true in
    let longer = e.further.longer in
    record {
      within = omega arith;
      search = e.search;
      rooms = λ i b more. e.further.kept i (inv.rooms i b more);
      walked = λ k m x b low o h. walked k m x b low o h (cases_lt k c.loop-pos.pos);
    }
  where
    walked : (k m x : ℕ) → k < c.loop-pos.pos + 1 → c.args.graph.now.low ≤ m → Offers (edges c.args.graph.now) m (ready_at c.visit_from.new.self.ways.items k) → place_of c.args.matching.now.choice.items m ≡ Some x → (k < c.loop-pos.pos) ⊎ (c.loop-pos.pos ≤ k) → is_reached c.visit_from.new.self.visited.items x ≡ true
    walked k m x b low o h (inl before) =
        let t = c.loop-pos-test.true in
        c.visit_from.ensures.further.kept x (c.loop-pos.invariant.walked k m x before low (subst (Offers (edges c.args.graph.now) m) (ap (λ (v : Way). v.interrupt) (c.visit_from.ensures.further.same k (omega arith))) o) h)
    walked k m x b low o h (inr past) =
        let here : k ≡ c.loop-pos.pos = omega arith in
        let t = c.loop-pos-test.true in
        let o' = subst (λ i. Offers (edges c.args.graph.now) m (ready_at c.visit_from.new.self.ways.items i)) here o in
        c.visit_from.ensures.visited m x low (subst (Offers (edges c.args.graph.now) m) (ap (λ (v : Way). v.interrupt) (c.visit_from.ensures.further.same c.loop-pos.pos t)) o') h

pub returns-then-not-has_left-clause-ready : goal.returns-then-not-has_left-clause-ready
returns-then-not-has_left-clause-ready c =
    let inv = c.loop-pos.invariant in
    let sized = inv.search.sized in
    record { rooms = λ i b. inv.rooms i (let e = sized.marks in omega arith); held = λ j i x low o r h. inv.search.search.gone j x low (c.if-not-has_left.ensures j) h }

pub returns-clause-ready : goal.returns-clause-ready
returns-clause-ready c =
    let inv = c.loop-pos.invariant in
    let sized = inv.search.sized in
    let t = c.loop-pos-test.false in
    record {
      rooms = λ i b. inv.rooms i (let e = sized.marks in omega arith);
      held = λ j i x low o r h.
          let w = inv.search.search.listed i r in
          inv.walked w.0 j x (omega (arith, w.1)) low (subst (Offers (edges c.args.graph.now) j) (sym w.2) o) h;
    }
