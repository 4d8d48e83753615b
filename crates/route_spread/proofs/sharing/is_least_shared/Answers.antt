use Rattle.std.proofs.Common.{ℕ, ap}
use Rattle.std.specs.Global.{Vec}
use Rattle.std.proofs.lemmas.Bool.{OnTrue_at, OnFalse_at}
use Rattle.route_model.specs.Links.{offers_of}
use Rattle.route_numbers.specs.Numbers.{lists_of}
use Rattle.route_spread.proofs.Shared.{none_moved}
use Rattle.route_spread.proofs.sharing.is_least_shared.Goals as goal

pub returns-clause-answer : goal.returns-clause-answer
returns-clause-answer c =
    let s = c.in_ok-sharing.sharing in
    let new = c.improve.new.self in
    let same = c.improve.ensures.same in
    none_moved (offers_of c.args.links.now) c.args.wired.now c.args.choice.now s.numbers.items (lists_of s.assignment.offers.items) s.assignment.choice.items s.assignment.loads.items new.assignment.choice.items new.assignment.loads.items new.marks.raised.items c.in_ok-sharing.ensures.sharing same.links same.interrupts c.improve.result
    (λ e. OnTrue_at e c.improve.ensures.yes)
    (λ e. let no_move = OnFalse_at e c.improve.ensures.no in (ap (λ (v : Vec ℕ). v.items) no_move.choice, ap (λ (v : Vec ℕ). v.items) no_move.loads, no_move.levelled))
