use Rattle.std.proofs.Common.{◌≡◌, ◌≤◌, ◌<◌, ℕ, List, Option, None, Some, set, length, arith, ◌∙◌, ap}
use Rattle.std.proofs.lemmas.Bool.{OnTrue_at, OnFalse_at}
use Rattle.route_model.specs.Placement.{taken}
use Rattle.route_solve.specs.Graphs.{capacity, edges}
use Rattle.route_solve.specs.Capacities.{at}
use Rattle.route_solve.specs.Ready.{way_at, ready_at}
use Rattle.route_solve.proofs.Handing.{handed_none, passing, held_still, handed_on, last_placed, last_given, last_augmented}
use Rattle.route_solve.proofs.Matched.{matched}
use Rattle.route_solve.proofs.Parts.{placed_within}
use Rattle.route_solve.proofs.moves.augment.Goals as goal

pub loop-pos-init : goal.loop-pos-init
loop-pos-init c = record {
  within = c.requires.start;
  interrupts = c.requires.matching.interrupts;
  counted = c.requires.matching.counted;
  handed = handed_none (edges c.args.graph.now) (capacity c.args.graph.now) c.args.graph.now.low c.args.matching.now.choice.items c.args.ways.now (length c.args.ways.now) c.args.link c.args.start c.requires.link.unplaced c.requires.ways c.requires.matching.placed c.requires.link.within c.requires.offered;
}

pub has_room-requires-clause-known : goal.has_room-requires-clause-known
has_room-requires-clause-known c = let d = ap length c.deref.ensures.value in let b = c.requires.graph.below _ _ c.loop-pos.invariant.handed.offered in let e = c.loop-pos.invariant.interrupts in omega arith

pub free-requires-clause-link : goal.free-requires-clause-link
free-requires-clause-link c =
    let x = ready_at c.args.ways.now c.loop-pos.pos in
    let full : capacity c.args.graph.now x ≤ taken c.loop-pos.matching.choice.items x =
    let no = OnFalse_at c.loop-pos-test.true c.has_room.ensures.no in
    let d = ap (λ xs. at xs x) c.deref.ensures.value in
    let b = c.requires.graph.below _ _ c.loop-pos.invariant.handed.offered in
    let e = c.loop-pos.invariant.interrupts in
    let f = c.loop-pos.invariant.counted x (omega arith) in
    omega arith in
    placed_within c.loop-pos.matching.choice.items (way_at c.args.ways.now c.loop-pos.pos).link x (held_still (edges c.args.graph.now) (capacity c.args.graph.now) c.args.graph.now.low c.args.matching.now.choice.items c.args.ways.now (length c.args.ways.now) c.args.link c.args.start c.requires.link.unplaced c.requires.ways c.loop-pos.matching.choice.items c.loop-pos.to_place c.loop-pos.pos c.loop-pos.invariant.handed c.loop-pos.invariant.within full)

pub free-requires-clause-known : goal.free-requires-clause-known
free-requires-clause-known c = let b = c.requires.graph.below _ _ c.loop-pos.invariant.handed.offered in let e = c.loop-pos.invariant.interrupts in omega arith

pub free-requires-clause-held : goal.free-requires-clause-held
free-requires-clause-held c =
    let x = ready_at c.args.ways.now c.loop-pos.pos in
    let full : capacity c.args.graph.now x ≤ taken c.loop-pos.matching.choice.items x =
    let no = OnFalse_at c.loop-pos-test.true c.has_room.ensures.no in
    let d = ap (λ xs. at xs x) c.deref.ensures.value in
    let b = c.requires.graph.below _ _ c.loop-pos.invariant.handed.offered in
    let e = c.loop-pos.invariant.interrupts in
    let f = c.loop-pos.invariant.counted x (omega arith) in
    omega arith in
    held_still (edges c.args.graph.now) (capacity c.args.graph.now) c.args.graph.now.low c.args.matching.now.choice.items c.args.ways.now (length c.args.ways.now) c.args.link c.args.start c.requires.link.unplaced c.requires.ways c.loop-pos.matching.choice.items c.loop-pos.to_place c.loop-pos.pos c.loop-pos.invariant.handed c.loop-pos.invariant.within full

pub give-requires-clause-known : goal.give-requires-clause-known
give-requires-clause-known c = let b = c.requires.graph.below _ _ c.loop-pos.invariant.handed.offered in let e = c.loop-pos.invariant.interrupts in let f = c.free.ensures.same in omega arith

pub loop-pos-smaller : goal.loop-pos-smaller
loop-pos-smaller c =
    let x = ready_at c.args.ways.now c.loop-pos.pos in
    let full : capacity c.args.graph.now x ≤ taken c.loop-pos.matching.choice.items x =
    let no = OnFalse_at c.loop-pos-test.true c.has_room.ensures.no in
    let d = ap (λ xs. at xs x) c.deref.ensures.value in
    let b = c.requires.graph.below _ _ c.loop-pos.invariant.handed.offered in
    let e = c.loop-pos.invariant.interrupts in
    let f = c.loop-pos.invariant.counted x (omega arith) in
    omega arith in
    (passing (edges c.args.graph.now) (capacity c.args.graph.now) c.args.graph.now.low c.args.matching.now.choice.items c.args.ways.now (length c.args.ways.now) c.args.link c.args.start c.requires.link.unplaced c.requires.ways c.loop-pos.matching.choice.items c.loop-pos.to_place c.loop-pos.pos c.loop-pos.invariant.handed c.loop-pos.invariant.within full).before

pub loop-pos-preserved : goal.loop-pos-preserved
loop-pos-preserved c =
    let x = ready_at c.args.ways.now c.loop-pos.pos in
    let full : capacity c.args.graph.now x ≤ taken c.loop-pos.matching.choice.items x =
    let no = OnFalse_at c.loop-pos-test.true c.has_room.ensures.no in
    let d = ap (λ xs. at xs x) c.deref.ensures.value in
    let b = c.requires.graph.below _ _ c.loop-pos.invariant.handed.offered in
    let e = c.loop-pos.invariant.interrupts in
    let f = c.loop-pos.invariant.counted x (omega arith) in
    omega arith in
    let q = c.loop-pos.matching.choice.items in
    let j = (way_at c.args.ways.now c.loop-pos.pos).link in
    let k = c.loop-pos.to_place in
    let is : c.give.new.self.choice.items ≡ set (set q j None) k (Some x) = c.give.ensures.given ∙ ap (λ (r : List (Option ℕ)). set r k (Some x)) c.free.ensures.freed in
    let less = (passing (edges c.args.graph.now) (capacity c.args.graph.now) c.args.graph.now.low c.args.matching.now.choice.items c.args.ways.now (length c.args.ways.now) c.args.link c.args.start c.requires.link.unplaced c.requires.ways c.loop-pos.matching.choice.items c.loop-pos.to_place c.loop-pos.pos c.loop-pos.invariant.handed c.loop-pos.invariant.within full).before in
    let within = c.loop-pos.invariant.within in
    record {
      within = omega arith;
      interrupts = c.give.ensures.same ∙ (c.free.ensures.same ∙ c.loop-pos.invariant.interrupts);
      counted = c.give.ensures.counted;
      handed = rw is (handed_on (edges c.args.graph.now) (capacity c.args.graph.now) c.args.graph.now.low c.args.matching.now.choice.items c.args.ways.now (length c.args.ways.now) c.args.link c.args.start c.requires.link.unplaced c.requires.ways c.loop-pos.matching.choice.items c.loop-pos.to_place c.loop-pos.pos c.loop-pos.invariant.handed c.loop-pos.invariant.within full);
    }

pub give-requires-2-clause-known : goal.give-requires-2-clause-known
give-requires-2-clause-known c = let b = c.requires.graph.below _ _ c.loop-pos.invariant.handed.offered in let e = c.loop-pos.invariant.interrupts in omega arith

pub returns-clause-matching : goal.returns-clause-matching
returns-clause-matching c =
    let x = ready_at c.args.ways.now c.loop-pos.pos in
    let free : taken c.loop-pos.matching.choice.items x < capacity c.args.graph.now x =
    let yes = OnTrue_at c.loop-pos-test.false c.has_room.ensures.yes in
    let d = ap (λ xs. at xs x) c.deref.ensures.value in
    let b = c.requires.graph.below _ _ c.loop-pos.invariant.handed.offered in
    let e = c.loop-pos.invariant.interrupts in
    let f = c.loop-pos.invariant.counted x (omega arith) in
    omega arith in
    matched c.args.graph.now.offers.now c.args.graph.now.sources.now c.args.graph.now.limit c.give-2.new.self (c.give-2.ensures.same ∙ c.loop-pos.invariant.interrupts) c.give-2.ensures.counted (rw c.give-2.ensures.given (last_placed (edges c.args.graph.now) (capacity c.args.graph.now) c.args.graph.now.low c.args.matching.now.choice.items c.args.ways.now (length c.args.ways.now) c.args.link c.args.start c.requires.link.unplaced c.requires.ways c.loop-pos.matching.choice.items c.loop-pos.to_place c.loop-pos.pos c.loop-pos.invariant.handed free))

pub returns-clause-augmented : goal.returns-clause-augmented
returns-clause-augmented c =
    let x = ready_at c.args.ways.now c.loop-pos.pos in
    let free : taken c.loop-pos.matching.choice.items x < capacity c.args.graph.now x =
    let yes = OnTrue_at c.loop-pos-test.false c.has_room.ensures.yes in
    let d = ap (λ xs. at xs x) c.deref.ensures.value in
    let b = c.requires.graph.below _ _ c.loop-pos.invariant.handed.offered in
    let e = c.loop-pos.invariant.interrupts in
    let f = c.loop-pos.invariant.counted x (omega arith) in
    omega arith in
    rw c.give-2.ensures.given (last_augmented (edges c.args.graph.now) (capacity c.args.graph.now) c.args.graph.now.low c.args.matching.now.choice.items c.args.ways.now (length c.args.ways.now) c.args.link c.args.start c.requires.link.unplaced c.requires.ways c.loop-pos.matching.choice.items c.loop-pos.to_place c.loop-pos.pos c.loop-pos.invariant.handed free)

pub returns-clause-given : goal.returns-clause-given
returns-clause-given c =
    let x = ready_at c.args.ways.now c.loop-pos.pos in
    let free : taken c.loop-pos.matching.choice.items x < capacity c.args.graph.now x =
    let yes = OnTrue_at c.loop-pos-test.false c.has_room.ensures.yes in
    let d = ap (λ xs. at xs x) c.deref.ensures.value in
    let b = c.requires.graph.below _ _ c.loop-pos.invariant.handed.offered in
    let e = c.loop-pos.invariant.interrupts in
    let f = c.loop-pos.invariant.counted x (omega arith) in
    omega arith in
    rw c.give-2.ensures.given (last_given (edges c.args.graph.now) (capacity c.args.graph.now) c.args.graph.now.low c.args.matching.now.choice.items c.args.ways.now (length c.args.ways.now) c.args.link c.args.start c.requires.link.unplaced c.requires.ways c.loop-pos.matching.choice.items c.loop-pos.to_place c.loop-pos.pos c.loop-pos.invariant.handed free)
