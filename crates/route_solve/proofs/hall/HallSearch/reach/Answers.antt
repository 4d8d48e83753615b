use Rattle.std.proofs.Common.{◌≡◌, ◌≤◌, ◌<◌, ◌+◌, ℕ, Some, true, set, arith, sym, ◌∙◌, subst, inl, inr, length, length-set}
use Rattle.std.specs.Prelude.{◌⊎◌}
use Rattle.std.proofs.lemmas.Bool.{OnTrue_at, OnFalse_at, cases_lt}
use Rattle.route_model.specs.Placement.{is_reached, place_of, Offers}
use Rattle.route_solve.specs.Graphs.{capacity, edges}
use Rattle.route_solve.specs.Capacities.{at}
use Rattle.route_solve.specs.Levels.{IsKept}
use Rattle.route_solve.proofs.Reaching.{queue_more, trail_more, longer_more, longer_still, kept_set, held_more, marked_now, some_is, closed_kept}
use Rattle.route_solve.proofs.hall.HallSearch.reach.Goals as goal
use Rattle.route_solve.proofs.hall.HallSearch.reach.Goals.{then-is_to_reach, else-is_to_reach}

pub loop-j-preserved : goal.loop-j-preserved
loop-j-preserved c =
    let g = c.args.graph.now in
    let offers = edges g in
    let p = c.args.matching.now.choice.items in
    let low = g.low in
    let inv = c.loop-j.invariant in
    let j = c.loop-j.j in
    let s0 = c.args.self.now in
    let s = c.loop-j.self in
    let queue = s.queue.items in
    let reached = s.reached.items in
    let tail = s.tail in
    let i = c.args.i in
    let first = inv.further.longer.longer in
    let trail = inv.search.trail in
    let listed = inv.search.listed in
    let sized = inv.search.sized in
    let links = c.requires.matching.links in
    let marks : length reached ≡ length p = let a = sized.marks in omega arith in
    let long : length queue ≡ length p = let a = sized.queue in omega arith in
    let bound : j < length p = let t = c.loop-j-test.true in let l = c.len-j-end.ensures in omega arith in
    elim c.if-is_to_reach.branch [
      | then-is_to_reach w ↦
          let yes = OnTrue_at w.if-is_to_reach.true c.is_to_reach.ensures.yes in
          let more = longer_more offers p low queue tail reached j i trail listed marks long bound yes.0 in
          let w0 = c.requires.offered in
          let parent_is : at queue w0.0 ≡ at s0.queue.items w0.0 = inv.further.longer.kept w0.0 w0.1 in
          let kept = kept_set reached j (omega arith) in
          rw w.self-is (record {
            search = record {
              sized = record {
                marks = length-set reached j true ∙ sized.marks;
                queue = length-set queue tail j ∙ sized.queue;
                seen = sized.seen;
              };
              trail = trail_more offers p low queue tail reached j i trail listed marks long bound yes.0 (omega arith) (λ x h. (w0.0, (let b = w0.1 in omega arith), subst (Offers offers (at queue w0.0)) (some_is (sym yes.1 ∙ h)) (subst (λ l. Offers offers l i) (sym parent_is) w0.2)));
              listed = queue_more offers p low queue tail reached j i trail listed marks long bound yes.0;
              closed = λ k h. closed_kept (capacity g) p low reached (set reached j true) k kept (inv.search.closed k h);
            };
            further = record {
              longer = longer_still s0.queue.items s0.tail queue tail (set queue tail j) (tail + 1) inv.further.longer more;
              reached = λ k h. kept k (inv.further.reached k h);
              seen = inv.further.seen;
            };
            seen = inv.seen;
            held = held_more offers p low queue tail reached j i trail listed marks long bound yes.0 s0.tail inv.held yes.1;
            holders = λ k le b h. hold k le b h (cases_lt k j) kept (marked_now reached j (omega arith));
          })
      | else-is_to_reach w ↦
          let free = OnFalse_at w.if-is_to_reach.false c.is_to_reach.ensures.no in
          rw w.self-is (record {
            search = inv.search;
            further = inv.further;
            seen = inv.seen;
            held = inv.held;
            holders = λ k le b h. stay k le b h (cases_lt k j) free;
          })
    ]
  where
    hold : (k : ℕ) → c.args.graph.now.low ≤ k → k < c.loop-j.j + 1 → place_of c.args.matching.now.choice.items k ≡ Some c.args.i → (k < c.loop-j.j) ⊎ (c.loop-j.j ≤ k) → IsKept c.loop-j.self.reached.items (set c.loop-j.self.reached.items c.loop-j.j true) → is_reached (set c.loop-j.self.reached.items c.loop-j.j true) c.loop-j.j ≡ true → is_reached (set c.loop-j.self.reached.items c.loop-j.j true) k ≡ true
    hold k le b h (inl before) kept now = kept k (c.loop-j.invariant.holders k le before h)
    hold k le b h (inr past) kept now = let e : c.loop-j.j ≡ k = omega arith in subst (λ m. is_reached (set c.loop-j.self.reached.items c.loop-j.j true) m ≡ true) e now

    stay : (k : ℕ) → c.args.graph.now.low ≤ k → k < c.loop-j.j + 1 → place_of c.args.matching.now.choice.items k ≡ Some c.args.i → (k < c.loop-j.j) ⊎ (c.loop-j.j ≤ k) → (place_of c.args.matching.now.choice.items c.loop-j.j ≡ Some c.args.i → is_reached c.loop-j.self.reached.items c.loop-j.j ≡ true) → is_reached c.loop-j.self.reached.items k ≡ true
    stay k le b h (inl before) free = c.loop-j.invariant.holders k le before h
    stay k le b h (inr past) free = let e : c.loop-j.j ≡ k = omega arith in subst (λ m. is_reached c.loop-j.self.reached.items m ≡ true) e (free (subst (λ m. place_of c.args.matching.now.choice.items m ≡ Some c.args.i) (sym e) h))
