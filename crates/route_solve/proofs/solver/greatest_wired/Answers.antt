use Rattle.std.proofs.Common.{◌≡◌, ◌≤◌, ◌<◌, ℕ, get_or, subst, arith, inl, inr, below_more}
use Rattle.std.specs.Prelude.{◌⊎◌}
use Rattle.route_model.specs.Routing.{wired_to}
use Rattle.route_model.proofs.Hall.{zero_or_more}
use Rattle.route_model.proofs.Loads.{wired_somewhere}
use Rattle.route_solve.proofs.Wired.{once, wired_at, wired_small}
use Rattle.route_solve.proofs.solver.greatest_wired.Goals as goal
use Rattle.route_solve.proofs.solver.greatest_wired.Goals.{then-count-greatest, else-count-greatest}

pub loop-w-preserved : goal.loop-w-preserved
loop-w-preserved c =
    let inv = c.loop-w.invariant in
    let i = (get_or c.args.wired.now c.loop-w.w-index (0, 0)).0 in
    let count = (get_or c.args.wired.now c.loop-w.w-index (0, 0)).1 in
    let value = wired_at c.args.wired.now (once c.args.wired.now c.requires.up) c.loop-w.w-index c.loop-w-test.true in
    let less = wired_small c.args.wired.now i in
    let counts = c.requires.counts in
    let small : count ≤ 4096 = omega arith in
    elim c.if-count-greatest.branch [
      | then-count-greatest w ↦
          let more = w.if-count-greatest.true in
          rw w.greatest-is (record {
            above = below_more (λ k. wired_to c.args.wired.now (get_or c.args.wired.now k (0, 0)).0 ≤ count) c.loop-w.w-index (λ k b. let h = inv.above k b in omega arith) (omega arith);
            reached = inr (i, omega arith);
            small = small;
          })
      | else-count-greatest w ↦
          let more = w.if-count-greatest.false in
          rw w.greatest-is (record {
            above = below_more (λ k. wired_to c.args.wired.now (get_or c.args.wired.now k (0, 0)).0 ≤ c.loop-w.greatest) c.loop-w.w-index inv.above (omega arith);
            reached = inv.reached;
            small = inv.small;
          })
    ]

above : (c : goal.After-loop-w) (i : ℕ) → wired_to c.args.wired.now i ≤ c.loop-w.greatest
above c i = go (zero_or_more (wired_to c.args.wired.now i))
  where
    go : (wired_to c.args.wired.now i ≡ 0) ⊎ (0 < wired_to c.args.wired.now i) → wired_to c.args.wired.now i ≤ c.loop-w.greatest
    go (inl e) = omega arith
    go (inr more) =
        let k = wired_somewhere c.args.wired.now i more in
        subst (λ j. wired_to c.args.wired.now j ≤ c.loop-w.greatest) k.2 (c.loop-w.invariant.above k.0 (omega (arith, k.1)))

pub returns : goal.returns
returns c = record { small = c.loop-w.invariant.small; reached = c.loop-w.invariant.reached; above = above c }
