use Rattle.std.proofs.Common.{◌≡◌, arith, sym, ◌∙◌}
use Rattle.std.proofs.lemmas.List.{get_or_default}
use Rattle.route_solve.specs.Capacities.{at}
use Rattle.route_solve.proofs.Counts.{counted_more, taken_few}
use Rattle.route_solve.proofs.matching.Matching.give.Goals as goal

pub overflow_add-index_mut : goal.overflow_add-index_mut
overflow_add-index_mut c =
    let m = c.args.self.now in
    let v = c.index_mut.ensures.value in
    let d = get_or_default m.counts.items c.args.i 0 c.index_mut.result.now c.requires.known in
    let e = c.requires.counted c.args.i c.requires.known in
    let f = taken_few m.choice.items c.args.i in
    let g = c.requires.few in
    omega arith

pub returns-clause-counted : goal.returns-clause-counted
returns-clause-counted c =
    let m = c.args.self.now in
    let here : c.index_mut.result.now ≡ at m.counts.items c.args.i = c.index_mut.ensures.value ∙ sym (get_or_default m.counts.items c.args.i 0 c.index_mut.result.now c.requires.known) in
    rw here (counted_more m.counts.items m.choice.items c.args.link c.args.i c.requires.link c.requires.known c.requires.unplaced c.requires.counted)
