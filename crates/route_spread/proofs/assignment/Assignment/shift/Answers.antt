use Rattle.std.proofs.Common.{◌≡◌, ◌<◌, ◌-◌, ◌∙◌, ℕ, true, false, length, arith, ap, sym, set, get_or-set_other}
use Rattle.std.specs.Global.{Vec}
use Rattle.std.proofs.lemmas.List.{length-set}
use Rattle.route_numbers.specs.Numbers.{lists_of}
use Rattle.route_spread.specs.Marks.{at, is_raised}
use Rattle.route_spread.proofs.Found.{found_at, raised_at}
use Rattle.route_spread.proofs.Moves.{moving_step, nearer, shifted_end, target_low}
use Rattle.route_spread.proofs.assignment.Assignment.shift.Goals as goal

-- the interrupt of the next link, and whether it is raised
pub loop-self-preserved : goal.loop-self-preserved
loop-self-preserved c =
    let inv = c.loop-self.invariant in
    let s = c.args.self.now in
    let m = c.args.marks.now in
    let moving = inv.moving in
    let within = moving.within in
    let room = c.requires.room in
    let marks = room.marks in
    let links = room.links in
    let i = at c.loop-self.self.choice.items c.loop-self.next in
    let below : i < length s.loads.items = c.requires.assigned.assigned.below c.loop-self.next i (moving.placed c.loop-self.next within) in
    let now : c.index.result.now ≡ i = found_at c.loop-self.self.choice.items c.loop-self.next c.index.result.now within c.index.ensures in
    let up : is_raised m.raised.items i ≡ true = ap (is_raised m.raised.items) (sym now) ∙ (raised_at m.raised.items c.index.result.now c.index-in-loop-self.result.now (omega arith) c.index-in-loop-self.ensures ∙ c.loop-self-test.true) in
    let ei : c.index-interrupt.result.now ≡ i = found_at c.loop-self.self.choice.items c.loop-self.next c.index-interrupt.result.now within c.index-interrupt.ensures in
    let en : c.index-next.result.now ≡ at m.from.items c.index-interrupt.result.now = found_at m.from.items c.index-interrupt.result.now c.index-next.result.now (omega arith) c.index-next.ensures in
    record {
      links = length-set c.loop-self.self.choice.items c.loop-self.next c.loop-self.to ∙ inv.links;
      holders = inv.holders;
      offers = inv.offers;
      loads = inv.loads;
      moving = moving_step (lists_of s.offers.items) s.choice.items c.loop-self.self.choice.items s.loads.items m.raised.items m.from.items m.order.ranks.items c.args.way.target c.loop-self.next c.loop-self.to c.index-interrupt.result.now c.index-next.result.now inv.links c.requires.way.1 moving ei en up;
    }

pub loop-self-smaller : goal.loop-self-smaller
loop-self-smaller c =
    let inv = c.loop-self.invariant in
    let s = c.args.self.now in
    let m = c.args.marks.now in
    let moving = inv.moving in
    let within = moving.within in
    let room = c.requires.room in
    let marks = room.marks in
    let links = room.links in
    let i = at c.loop-self.self.choice.items c.loop-self.next in
    let below : i < length s.loads.items = c.requires.assigned.assigned.below c.loop-self.next i (moving.placed c.loop-self.next within) in
    let now : c.index.result.now ≡ i = found_at c.loop-self.self.choice.items c.loop-self.next c.index.result.now within c.index.ensures in
    let up : is_raised m.raised.items i ≡ true = ap (is_raised m.raised.items) (sym now) ∙ (raised_at m.raised.items c.index.result.now c.index-in-loop-self.result.now (omega arith) c.index-in-loop-self.ensures ∙ c.loop-self-test.true) in
    let ei : c.index-interrupt.result.now ≡ i = found_at c.loop-self.self.choice.items c.loop-self.next c.index-interrupt.result.now within c.index-interrupt.ensures in
    let en : c.index-next.result.now ≡ at m.from.items c.index-interrupt.result.now = found_at m.from.items c.index-interrupt.result.now c.index-next.result.now (omega arith) c.index-next.ensures in
    nearer (lists_of s.offers.items) s.choice.items c.loop-self.self.choice.items s.loads.items m.raised.items m.from.items m.order.ranks.items c.args.way.target c.loop-self.next c.loop-self.to c.index-interrupt.result.now c.index-next.result.now inv.links c.requires.way.1 moving ei en up

pub returns-clause-moved : goal.returns-clause-moved
returns-clause-moved c =
    let inv = c.loop-self.invariant in
    let s = c.args.self.now in
    let m = c.args.marks.now in
    let moving = inv.moving in
    let within = moving.within in
    let room = c.requires.room in
    let marks = room.marks in
    let i = at c.loop-self.self.choice.items c.loop-self.next in
    let bt = c.requires.assigned.assigned.below c.args.way.link c.args.way.target c.requires.way.0.offered in
    let below : i < length s.loads.items = c.requires.assigned.assigned.below c.loop-self.next i (moving.placed c.loop-self.next within) in
    let same : c.loop-self.self.loads.items ≡ s.loads.items = ap (λ (v : Vec ℕ). v.items) inv.loads in
    let now : c.index.result.now ≡ i = found_at c.loop-self.self.choice.items c.loop-self.next c.index.result.now within c.index.ensures in
    let down : is_raised m.raised.items i ≡ false = ap (is_raised m.raised.items) (sym now) ∙ (raised_at m.raised.items c.index.result.now c.index-in-loop-self.result.now (omega arith) c.index-in-loop-self.ensures ∙ c.loop-self-test.false) in
    let root : c.index-root.result.now ≡ i = found_at c.loop-self.self.choice.items c.loop-self.next c.index-root.result.now within c.index-root.ensures in
    let taken : c.index_mut-3.result.now ≡ at s.loads.items c.index-root.result.now = found_at s.loads.items c.index-root.result.now c.index_mut-3.result.now (omega arith) (rw same at c.index_mut-3.ensures.value) in
    let long = length-set s.loads.items c.index-root.result.now (c.index_mut-3.result.now - 1) in
    let has : c.index_mut-4.result.now ≡ at (set s.loads.items c.index-root.result.now (c.index_mut-3.result.now - 1)) c.args.way.target = found_at (set s.loads.items c.index-root.result.now (c.index_mut-3.result.now - 1)) c.args.way.target c.index_mut-4.result.now (omega arith) (rw same at c.index_mut-4.ensures.value) in
    rw same (shifted_end (lists_of s.offers.items) s.choice.items c.loop-self.self.choice.items s.loads.items m.raised.items m.from.items m.order.ranks.items c.args.way.target c.loop-self.next c.loop-self.to c.index-root.result.now c.index_mut-3.result.now c.index_mut-4.result.now inv.links bt below moving down c.requires.way.1 root taken has)

pub index_mut-requires-4 : goal.index_mut-requires-4
index_mut-requires-4 c =
    let inv = c.loop-self.invariant in
    let bt = c.requires.assigned.assigned.below c.args.way.link c.args.way.target c.requires.way.0.offered in
    let same : length c.loop-self.self.loads.items ≡ length c.args.self.now.loads.items = ap (λ (v : Vec ℕ). length v.items) inv.loads in
    omega arith

pub overflow_add-index_mut : goal.overflow_add-index_mut
overflow_add-index_mut c =
    let inv = c.loop-self.invariant in
    let s = c.args.self.now in
    let m = c.args.marks.now in
    let moving = inv.moving in
    let within = moving.within in
    let room = c.requires.room in
    let marks = room.marks in
    let i = at c.loop-self.self.choice.items c.loop-self.next in
    let bt = c.requires.assigned.assigned.below c.args.way.link c.args.way.target c.requires.way.0.offered in
    let below : i < length s.loads.items = c.requires.assigned.assigned.below c.loop-self.next i (moving.placed c.loop-self.next within) in
    let same : c.loop-self.self.loads.items ≡ s.loads.items = ap (λ (v : Vec ℕ). v.items) inv.loads in
    let now : c.index.result.now ≡ i = found_at c.loop-self.self.choice.items c.loop-self.next c.index.result.now within c.index.ensures in
    let down : is_raised m.raised.items i ≡ false = ap (is_raised m.raised.items) (sym now) ∙ (raised_at m.raised.items c.index.result.now c.index-in-loop-self.result.now (omega arith) c.index-in-loop-self.ensures ∙ c.loop-self-test.false) in
    let root : c.index-root.result.now ≡ i = found_at c.loop-self.self.choice.items c.loop-self.next c.index-root.result.now within c.index-root.ensures in
    let far = target_low (lists_of s.offers.items) s.choice.items c.loop-self.self.choice.items s.loads.items m.raised.items m.order.ranks.items c.args.way.target c.loop-self.next c.loop-self.to c.index-root.result.now moving down root in
    let long = length-set s.loads.items c.index-root.result.now (c.index_mut-3.result.now - 1) in
    let has : c.index_mut-4.result.now ≡ at (set s.loads.items c.index-root.result.now (c.index_mut-3.result.now - 1)) c.args.way.target = found_at (set s.loads.items c.index-root.result.now (c.index_mut-3.result.now - 1)) c.args.way.target c.index_mut-4.result.now (omega arith) (rw same at c.index_mut-4.ensures.value) in
    let other : at (set s.loads.items c.index-root.result.now (c.index_mut-3.result.now - 1)) c.args.way.target ≡ at s.loads.items c.args.way.target = get_or-set_other s.loads.items c.index-root.result.now c.args.way.target (c.index_mut-3.result.now - 1) 0 (λ e. absurd (let f = ap (at s.loads.items) e in omega arith)) in
    let small = c.requires.assigned.assigned.small c.args.way.target in
    omega arith
