use Rattle.std.proofs.Common.{◌≡◌, ◌^◌, ℕ, length, arith, ap}
use Rattle.std.specs.Global.{Vec}
use Rattle.route_numbers.specs.Numbers.{lists_of}
use Rattle.route_spread.specs.Marks.{at}
use Rattle.route_spread.proofs.sharing.Sharing.improve.Goals as goal

pub note-requires-clause-known : goal.note-requires-clause-known
note-requires-clause-known c =
    let assigned = c.requires.marked.assigned in
    rw c.deref.ensures.value (λ k b. let p = assigned.below k (at c.args.self.now.assignment.choice.items k) (assigned.placed k b) in let f = c.requires.marked.first in omega arith)

pub returns-in-Some-clause-can : goal.returns-in-Some-clause-can
returns-in-Some-clause-can c =
    let old = c.args.self.now.assignment in
    let new = c.shift.new.self in
    let assigned = c.requires.marked.assigned in
    let offers : lists_of new.offers.items ≡ lists_of old.offers.items = ap (λ (vs : Vec (Vec ℕ)). lists_of vs.items) c.shift.ensures.same.0 in
    let links = c.shift.ensures.links in
    let loads = c.shift.ensures.interrupts in
    let moved = c.shift.ensures.moved in
    let holders = c.shift.ensures.same.1 in
    let first = ap (λ h. length h.first.items) holders in
    let next = ap (λ h. length h.next.items) holders in
    let gf = c.note.ensures.first in
    let gn = c.note.ensures.next in
    let rf = c.requires.marked.first in
    let rn = c.requires.marked.next in
    let room = c.in-Some.ensures.room in
    record {
      marked = record {
        assigned = rw offers (record {
          links = let l = assigned.links in omega arith;
          below = λ l x o. let b = assigned.below l x o in omega arith;
          placed = moved.placed;
          small = moved.bounded (2 ^ 100) assigned.small;
        });
        first = omega arith;
        next = omega arith;
      };
      room = rw loads room;
    }
