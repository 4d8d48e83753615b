use Rattle.std.proofs.Common.{◌≡◌, arith, sym, ◌∙◌}
use Rattle.std.proofs.lemmas.List.{get_or_default}
use Rattle.route_solve.specs.Capacities.{at}
use Rattle.route_solve.proofs.Counts.{counted_less, held_counted}
use Rattle.route_solve.proofs.matching.Matching.free.Goals as goal

pub overflow_sub-index_mut : goal.overflow_sub-index_mut
overflow_sub-index_mut c =
    let m = c.args.self.now in
    let v = c.index_mut.ensures.value in
    let d = get_or_default m.counts.items c.args.x 0 c.index_mut.result.now c.requires.known in
    let e = c.requires.counted c.args.x c.requires.known in
    let f = held_counted m.choice.items c.args.link c.args.x c.requires.link c.requires.held in
    omega arith

pub returns-clause-counted : goal.returns-clause-counted
returns-clause-counted c =
    let m = c.args.self.now in
    let here : c.index_mut.result.now ≡ at m.counts.items c.args.x = c.index_mut.ensures.value ∙ sym (get_or_default m.counts.items c.args.x 0 c.index_mut.result.now c.requires.known) in
    rw here (counted_less m.counts.items m.choice.items c.args.link c.args.x c.requires.link c.requires.known c.requires.held c.requires.counted)
