use Rattle.std.proofs.Common.{arith, get_or, subst, below_more}
use Rattle.std.specs.Prelude.{Contains}
use Rattle.std.proofs.lemmas.List.Elements.{Contains-append_left, Contains-append_right, Contains-push}
use Rattle.route_model.proofs.Loads.{wired_somewhere}
use Rattle.route_solve.proofs.Filtered.{any_contains, contains_any}
use Rattle.route_solve.proofs.buffers.all_interrupts.Goals as goal

pub loop-w-init : goal.loop-w-init
loop-w-init c = record {
  offered = λ n h. rw c.in_ok-extend_from_slice.ensures.items (Contains-append_right _ c.args.numbers.now n h);
  sources = λ k b. absurd (omega arith);
}

pub loop-w-preserved : goal.loop-w-preserved
loop-w-preserved c =
    let inv = c.loop-w.invariant in
    let old = c.loop-w.interrupts.items in
    let i = c.loop-w.w-index in
    let items = c.in_ok-push.ensures.items in
    record {
      offered = λ n h. rw items (Contains-append_left old _ n (inv.offered n h));
      sources = below_more (λ k. Contains c.push.new.self.items (get_or c.args.wired.now k (0, 0)).0) i (λ k b. rw items (Contains-append_left old _ _ (inv.sources k b))) (rw items (Contains-push old _));
    }

pub returns-clause-offered : goal.returns-clause-offered
returns-clause-offered c n h = contains_any n c.put_in_order.new.numbers.items (c.in_ok-put_in_order.ensures.kept n (c.loop-w.invariant.offered n (any_contains n c.args.numbers.now h)))

pub returns-clause-sources : goal.returns-clause-sources
returns-clause-sources c n more =
    let w = wired_somewhere c.args.wired.now n more in
    contains_any n c.put_in_order.new.numbers.items (c.in_ok-put_in_order.ensures.kept n (subst (Contains c.loop-w.interrupts.items) w.2 (c.loop-w.invariant.sources w.0 (let b = w.1 in let t = c.loop-w-test.false in omega arith))))
