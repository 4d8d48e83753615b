use Rattle.std.proofs.Common.{◌<◌, length, arith, ◌∙◌, ap}
use Rattle.std.proofs.lemmas.Bool.{OnTrue_at}
use Rattle.route_solve.specs.Graphs.{capacity, edges}
use Rattle.route_solve.specs.Capacities.{at}
use Rattle.route_solve.proofs.Fixing.{shifted_placed, shifted_whole, shifted_front, shifted_there}
use Rattle.route_solve.proofs.Matched.{matched}
use Rattle.route_solve.proofs.first.shift.Goals as goal

pub has_room-requires-clause-known : goal.has_room-requires-clause-known
has_room-requires-clause-known c =
    let b = c.requires.graph.below c.args.link c.args.i c.requires.offered in
    let e = c.requires.matching.matching.interrupts in
    let d = ap length c.deref.ensures.value in
    omega arith

pub free-requires-clause-known : goal.free-requires-clause-known
free-requires-clause-known c =
    let b = c.requires.graph.below c.args.link c.args.x (c.requires.matching.matching.placed.offered c.args.link c.args.x c.requires.held) in
    let e = c.requires.matching.matching.interrupts in
    omega arith

pub give-requires-clause-known : goal.give-requires-clause-known
give-requires-clause-known c =
    let b = c.requires.graph.below c.args.link c.args.i c.requires.offered in
    let e = c.requires.matching.matching.interrupts in
    let f = c.free.ensures.same in
    omega arith

pub returns-clause-matching : goal.returns-clause-matching
returns-clause-matching c =
    let g = c.args.graph.now in
    let m = c.args.matching.now in
    let old = c.requires.matching.matching in
    let known : c.args.i < length m.counts.items = let b = c.requires.graph.below c.args.link c.args.i c.requires.offered in let e = old.interrupts in omega arith in
    let e = old.counted c.args.i known in
    let y = OnTrue_at c.if-not-has_room.false c.has_room.ensures.yes in
    let d = ap (λ xs. at xs c.args.i) c.deref.ensures.value in
    record {
      matching = matched g.offers.now g.sources.now g.limit c.give.new.self (c.give.ensures.same ∙ (c.free.ensures.same ∙ old.interrupts)) c.give.ensures.counted (rw (c.give.ensures.given, c.free.ensures.freed) (shifted_placed (edges g) (capacity g) m.choice.items c.args.link c.args.i c.requires.link old.placed c.requires.offered (omega arith)));
      whole = rw (c.give.ensures.given, c.free.ensures.freed) (shifted_whole (edges g) (capacity g) m.choice.items c.args.link c.args.i c.requires.link c.requires.matching.whole);
    }

pub returns-clause-kept : goal.returns-clause-kept
returns-clause-kept c = rw (c.give.ensures.given, c.free.ensures.freed) (shifted_front (edges c.args.graph.now) (capacity c.args.graph.now) c.args.matching.now.choice.items c.args.link c.args.i)

pub returns-clause-given : goal.returns-clause-given
returns-clause-given c = rw (c.give.ensures.given, c.free.ensures.freed) (shifted_there (edges c.args.graph.now) (capacity c.args.graph.now) c.args.matching.now.choice.items c.args.link c.args.i c.requires.link)
