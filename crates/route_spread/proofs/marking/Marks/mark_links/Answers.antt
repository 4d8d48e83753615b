use Rattle.std.proofs.Common.{◌≡◌, ◌≢◌, ◌≤◌, ◌<◌, ◌∙◌, ℕ, List, [], length, arith, ap, sym, subst, get_or}
use Rattle.std.specs.Prelude.{Contains}
use Rattle.route_model.specs.Placement.{Offers}
use Rattle.route_numbers.specs.Numbers.{lists_of}
use Rattle.route_spread.specs.Marks.{at, height_at, AreRaised, IsArranged}
use Rattle.route_spread.proofs.Found.{found_at}
use Rattle.route_numbers.proofs.Numbered.{lists_at, lists_length}
use Rattle.route_spread.proofs.Arranged.{one_rank}
use Rattle.route_spread.proofs.Turns.{marked_begins, marked_more, marked_past, between_past, chained_more, way_there, here_still, top_still}
use Rattle.route_spread.proofs.marking.Marks.mark_links.Goals as goal

pub loop-link-init : goal.loop-link-init
loop-link-init c =
    let a = c.args.assignment.now in
    let places = lists_of a.offers.items in
    let choice = a.choice.items in
    let loads = a.loads.items in
    let old = c.args.self.now in
    let new = c.count_high.new.self in
    let counted = c.count_high.ensures.counted in
    let el = c.deref-loads.ensures.value in
    let many = ap length el in
    let room = c.requires.room in
    let order = room.order in
    let long = room.listed.long in
    let within = c.requires.within in
    let assigned = c.requires.assigned in
    let firsts = assigned.first in
    let holders = c.requires.holders in
    let i = c.args.i in
    let ei : c.index-interrupt.result.now ≡ at old.order.interrupts.items i = found_at old.order.interrupts.items i c.index-interrupt.result.now (omega arith) c.index-interrupt.ensures in
    let known = room.listed.known i (omega arith) in
    let rank : at old.order.ranks.items c.index-interrupt.result.now ≡ i = ap (at old.order.ranks.items) ei ∙ room.listed.ranked i (omega arith) in
    let el2 : c.index-link.result.now ≡ at a.holders.first.items c.index-interrupt.result.now = found_at a.holders.first.items c.index-interrupt.result.now c.index-link.result.now (omega arith) c.index-link.ensures in
    record {
      room = rw el at c.count_high.ensures.room;
      arranged = rw el at counted.arranged;
      passed = counted.passed;
      marked = marked_begins places choice loads old.raised.items new.raised.items old.from.items new.from.items old.order.ranks.items new.order.ranks.items old.order.high new.order.high i c.index-link.result.now counted.raised counted.from counted.ranks counted.more c.requires.marked.1
          (λ k b e.
          let found = holders.found k b in
          let there = room.listed.there (at choice k) (let p = assigned.assigned.below k (at choice k) (assigned.assigned.placed k b) in omega arith) in
          let same : at choice k ≡ c.index-interrupt.result.now = sym there ∙ (ap (at old.order.interrupts.items) e ∙ sym ei) in
          let first = ap (at a.holders.first.items) same in
          omega arith);
      known = omega arith;
      here = rw counted.ranks rank;
      mine = λ b. ap (at choice) el2 ∙ holders.has c.index-interrupt.result.now (omega arith) (omega arith);
      high = rw counted.raised (let h = c.height-top.ensures in sym (rw el at h));
    }

-- what the link of this turn offers
pub raise_all-requires-clause-known : goal.raise_all-requires-clause-known
raise_all-requires-clause-known c x h =
    let a = c.args.assignment.now in
    let places = lists_of a.offers.items in
    let l = c.loop-link.link in
    let el = c.deref-loads.ensures.value in
    let count = c.len.ensures in
    let links = c.requires.assigned.assigned.links in
    let offers = lists_length a.offers.items in
    let t = c.loop-link-test.true in
    let eo : get_or places l [] ≡ c.deref-offers.result.now = lists_at a.offers.items l c.index.result.now (omega arith) c.index.ensures ∙ sym c.deref-offers.ensures.value in
    rw el (c.requires.assigned.assigned.below l x (subst (λ (xs : List ℕ). Contains xs x) (sym eo) h))

pub returns-in-Some-clause-found : goal.returns-in-Some-clause-found
returns-in-Some-clause-found c =
    let a = c.args.assignment.now in
    let places = lists_of a.offers.items in
    let choice = a.choice.items in
    let loads = a.loads.items in
    let old = c.loop-link.self in
    let new = c.raise_all.new.self in
    let inv = c.loop-link.invariant in
    let l = c.loop-link.link in
    let top = c.height-top.result in
    let el = c.deref-loads.ensures.value in
    let many = ap length el in
    let count = c.len.ensures in
    let bl : l < length choice = (let t = c.loop-link-test.true in omega arith) in
    let assigned = c.requires.assigned.assigned in
    let links = assigned.links in
    let offers = lists_length a.offers.items in
    let eo : get_or places l [] ≡ c.deref-offers.result.now = lists_at a.offers.items l c.index.result.now (omega arith) c.index.ensures ∙ sym c.deref-offers.ensures.value in
    let raised : AreRaised loads old.raised.items new.raised.items old.from.items new.from.items l top (λ x. Contains (get_or places l []) x) = rw eo (rw el at c.raise_all.ensures.only) in
    let later = c.raise_all.ensures.later in
    let arranged : IsArranged loads new.raised.items new.order.interrupts.items new.order.ranks.items new.order.high top = rw el at c.raise_all.ensures.arranged in
    let order = inv.room.order in
    let long = inv.room.listed.long in
    let order' = c.raise_all.ensures.room.order in
    let long' = c.raise_all.ensures.room.listed.long in
    let mine : at choice l ≡ c.index-interrupt.result.now = inv.mine bl in
    let here : at old.order.ranks.items (at choice l) ≡ c.args.i = ap (at old.order.ranks.items) mine ∙ inv.here in
    let high : height_at loads old.raised.items (at choice l) ≡ top = ap (height_at loads old.raised.items) mine ∙ inv.high in
    let known : (k : ℕ) → k < length choice → at choice k < length old.order.ranks.items = (λ k b. let p = assigned.below k (at choice k) (assigned.placed k b) in omega arith) in
    let below : (k x : ℕ) → Offers places k x → x < length old.order.ranks.items = (λ k x o. let p = assigned.below k x o in omega arith) in
    let found = c.in-Some.ensures.found in
    (way_there places choice loads old.raised.items new.raised.items old.from.items new.from.items old.order.interrupts.items new.order.interrupts.items old.order.ranks.items new.order.ranks.items old.order.high new.order.high top c.args.i l known below (omega arith) inv.arranged arranged later inv.passed inv.marked bl here high raised c.in-Some.target (subst (λ (xs : List ℕ). Contains xs c.in-Some.target) (sym eo) found.0) (rw el at found.1), chained_more places choice loads old.raised.items new.raised.items old.from.items new.from.items old.order.interrupts.items new.order.interrupts.items old.order.ranks.items new.order.ranks.items old.order.high new.order.high top c.args.i l known below (omega arith) inv.arranged arranged later inv.passed inv.marked bl here high raised)

pub loop-link-smaller : goal.loop-link-smaller
loop-link-smaller c =
    let a = c.args.assignment.now in
    let l = c.loop-link.link in
    let count = c.len.ensures in
    let t = c.loop-link-test.true in
    let nexts = c.requires.assigned.next in
    let after = c.requires.holders.after l (omega arith) in
    let en : c.index-link-in-loop-link.result.now ≡ at a.holders.next.items l = found_at a.holders.next.items l c.index-link-in-loop-link.result.now (omega arith) c.index-link-in-loop-link.ensures in
    omega arith

pub loop-link-preserved : goal.loop-link-preserved
loop-link-preserved c =
    let a = c.args.assignment.now in
    let places = lists_of a.offers.items in
    let choice = a.choice.items in
    let loads = a.loads.items in
    let old = c.loop-link.self in
    let new = c.raise_all.new.self in
    let inv = c.loop-link.invariant in
    let l = c.loop-link.link in
    let top = c.height-top.result in
    let el = c.deref-loads.ensures.value in
    let many = ap length el in
    let count = c.len.ensures in
    let bl : l < length choice = (let t = c.loop-link-test.true in omega arith) in
    let assigned = c.requires.assigned.assigned in
    let links = assigned.links in
    let offers = lists_length a.offers.items in
    let eo : get_or places l [] ≡ c.deref-offers.result.now = lists_at a.offers.items l c.index.result.now (omega arith) c.index.ensures ∙ sym c.deref-offers.ensures.value in
    let raised : AreRaised loads old.raised.items new.raised.items old.from.items new.from.items l top (λ x. Contains (get_or places l []) x) = rw eo (rw el at c.raise_all.ensures.only) in
    let later = c.raise_all.ensures.later in
    let arranged : IsArranged loads new.raised.items new.order.interrupts.items new.order.ranks.items new.order.high top = rw el at c.raise_all.ensures.arranged in
    let order = inv.room.order in
    let long = inv.room.listed.long in
    let order' = c.raise_all.ensures.room.order in
    let long' = c.raise_all.ensures.room.listed.long in
    let mine : at choice l ≡ c.index-interrupt.result.now = inv.mine bl in
    let here : at old.order.ranks.items (at choice l) ≡ c.args.i = ap (at old.order.ranks.items) mine ∙ inv.here in
    let high : height_at loads old.raised.items (at choice l) ≡ top = ap (height_at loads old.raised.items) mine ∙ inv.high in
    let known : (k : ℕ) → k < length choice → at choice k < length old.order.ranks.items = (λ k b. let p = assigned.below k (at choice k) (assigned.placed k b) in omega arith) in
    let below : (k x : ℕ) → Offers places k x → x < length old.order.ranks.items = (λ k x o. let p = assigned.below k x o in omega arith) in
    let holders = c.requires.holders in
    let nexts = c.requires.assigned.next in
    let next = c.index-link-in-loop-link.result.now in
    let en : next ≡ at a.holders.next.items l = found_at a.holders.next.items l next (omega arith) c.index-link-in-loop-link.ensures in
    let after = holders.after l bl in
    let none : (k : ℕ) → l < k → k < next → k < length choice → at choice k ≢ at choice l = (λ k less before b e. let n = holders.none l k less b e in omega arith) in
    let done : (x : ℕ) → Contains (get_or places l []) x → top ≤ height_at loads new.raised.items x = (λ x h. rw el at (c.in-None.ensures.found x (subst (λ (xs : List ℕ). Contains xs x) eo h))) in
    let more = later.more in
    let passed = inv.passed in
    record {
      room = rw el at c.raise_all.ensures.room;
      arranged = arranged;
      passed = omega arith;
      marked = marked_more places choice loads old.raised.items new.raised.items old.from.items new.from.items old.order.interrupts.items new.order.interrupts.items old.order.ranks.items new.order.ranks.items old.order.high new.order.high top c.args.i l known below (omega arith) inv.arranged arranged later inv.passed inv.marked bl here high raised done next (omega arith) none (one_rank old.order.interrupts.items old.order.ranks.items inv.room.listed);
      known = inv.known;
      here = sym (ap (at new.order.ranks.items) mine) ∙ here_still places choice loads old.raised.items new.raised.items old.from.items new.from.items old.order.interrupts.items new.order.interrupts.items old.order.ranks.items new.order.ranks.items old.order.high new.order.high top c.args.i l known below (omega arith) inv.arranged arranged later inv.passed inv.marked bl here high raised;
      mine = λ b. ap (at choice) en ∙ (holders.same l bl (omega arith) ∙ mine);
      high = sym (ap (height_at loads new.raised.items) mine) ∙ top_still places choice loads old.raised.items new.raised.items old.from.items new.from.items old.order.interrupts.items new.order.interrupts.items old.order.ranks.items new.order.ranks.items old.order.high new.order.high top c.args.i l known below (omega arith) inv.arranged arranged later inv.passed inv.marked bl here high raised;
    }

pub returns-clause-found : goal.returns-clause-found
returns-clause-found c =
    let a = c.args.assignment.now in
    let s = c.loop-link.self in
    let inv = c.loop-link.invariant in
    let count = c.len.ensures in
    let t = c.loop-link-test.false in
    let order = inv.room.order in
    let long = inv.room.listed.long in
    let known = inv.known in (
      between_past a.loads.items s.raised.items s.order.interrupts.items s.order.ranks.items s.order.high c.height-top.result c.args.i c.index-interrupt.result.now inv.arranged inv.passed (omega arith) inv.here inv.high,
      marked_past (lists_of a.offers.items) a.choice.items a.loads.items s.raised.items s.from.items s.order.ranks.items s.order.high c.args.i c.loop-link.link (omega arith) inv.marked,
    )
