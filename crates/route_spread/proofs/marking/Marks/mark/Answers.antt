use Rattle.std.proofs.Common.{arith}
use Rattle.route_numbers.specs.Numbers.{lists_of}
use Rattle.route_spread.specs.Marks.{at}
use Rattle.route_spread.proofs.Turns.{levelled_all, marked_none}
use Rattle.route_spread.proofs.marking.Marks.mark.Goals as goal

pub loop-i-init : goal.loop-i-init
loop-i-init c =
    let a = c.args.assignment.now in
    let s = c.begin.new.self in
    let el = c.deref.ensures.value in
    record {
      room = rw el at c.begin.ensures.room;
      marked = (rw el at c.begin.ensures.arranged, marked_none (lists_of a.offers.items) a.choice.items a.loads.items s.raised.items s.from.items s.order.ranks.items s.order.high c.begin.ensures.none);
    }

pub returns-clause-found : goal.returns-clause-found
returns-clause-found c =
    let a = c.args.assignment.now in
    let s = c.loop-i.self in
    let inv = c.loop-i.invariant in
    let assigned = c.requires.assigned.assigned in
    let order = inv.room.order in
    let count = c.len-i-end.ensures in
    let end = c.loop-i-test.false in
    let within = c.loop-i.auto.i-end in
    levelled_all (lists_of a.offers.items) a.choice.items a.loads.items s.raised.items s.from.items s.order.interrupts.items s.order.ranks.items s.order.high c.loop-i.i inv.room.listed (omega arith) (λ k b. let p = assigned.below k (at a.choice.items k) (assigned.placed k b) in omega arith) inv.marked.1
