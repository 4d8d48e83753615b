use Rattle.std.proofs.Common.{◌∙◌, ap, sym, subst}
use Rattle.watched_space.specs.NumberedBytes.{IsAscending}
use Rattle.watched_space.proofs.Ascending.{byte_at, absent_in_gap, set_is, written_at, written_new}
use Rattle.watched_space.proofs.zeros.Zeros.write.Goals as goal

pub returns-in-Ok-clause-answer : goal.returns-in-Ok-clause-answer
returns-in-Ok-clause-answer c =
    let found = byte_at c.args.self.now (subst IsAscending c.self.view_is c.self.invariant.ascends) c.args.number c.in-Ok.at c.in-Ok.ensures.found in
    ap (λ p. p.0) (sym (written_at c.args.self.now c.args.number c.args.byte _ found))

pub returns-in-Ok-clause-state : goal.returns-in-Ok-clause-state
returns-in-Ok-clause-state c =
    let ascends = subst IsAscending c.self.view_is c.self.invariant.ascends in
    let found = byte_at c.args.self.now ascends c.args.number c.in-Ok.at c.in-Ok.ensures.found in
    rw c.self.view_is (set_is c.args.self.now ascends c.args.number c.in-Ok.at c.in-Ok.ensures.found c.args.byte ∙ ap (λ p. p.1) (sym (written_at c.args.self.now c.args.number c.args.byte _ found)))

pub returns-in-Err-clause-answer : goal.returns-in-Err-clause-answer
returns-in-Err-clause-answer c =
    c.insert.ensures.answer ∙ ap (λ p. p.0) (sym (written_new c.args.self.now c.args.number c.args.byte (absent_in_gap c.args.self.now c.args.number c.in-Err.at c.in-Err.ensures.absent)))

pub returns-in-Err-clause-state : goal.returns-in-Err-clause-state
returns-in-Err-clause-state c =
    rw (c.insert.ensures.state, c.insert.ensures.answer) (ap (λ p. p.1) (sym (written_new c.args.self.now c.args.number c.args.byte (absent_in_gap c.args.self.now c.args.number c.in-Err.at c.in-Err.ensures.absent))))
