use Rattle.std.proofs.Common.{◌∙◌, ap, sym, subst, get_or, true, false, arith}
use Rattle.std.proofs.lemmas.List.{get_or_default}
use Rattle.watched_space.specs.NumberedBytes.{IsAscending}
use Rattle.watched_space.proofs.Ascending.{byte_at, absent_in_gap, read_at, read_new, read_full}
use Rattle.watched_space.proofs.zeros.Zeros.read.Goals as goal

pub returns-in-Ok-clause-answer : goal.returns-in-Ok-clause-answer
returns-in-Ok-clause-answer c =
    let found = byte_at c.args.self.now (subst IsAscending c.self.view_is c.self.invariant.ascends) c.args.number c.in-Ok.at c.in-Ok.ensures.found in
    let read = get_or_default c.args.self.now c.in-Ok.at c.index.result.now (0, 0) c.in-Ok.ensures.found.in_range in
    let is = read_at c.args.self.now c.args.number (get_or c.args.self.now c.in-Ok.at (0, 0)).1 found in
    grind (arith, c.self.view_is, is)

pub returns-in-Ok-clause-state : goal.returns-in-Ok-clause-state
returns-in-Ok-clause-state c =
    let found = byte_at c.args.self.now (subst IsAscending c.self.view_is c.self.invariant.ascends) c.args.number c.in-Ok.at c.in-Ok.ensures.found in
    ap (λ p. p.1) (sym (read_at c.args.self.now c.args.number (get_or c.args.self.now c.in-Ok.at (0, 0)).1 found))

pub returns-then-insert-clause-answer : goal.returns-then-insert-clause-answer
returns-then-insert-clause-answer c =
    ap (λ p. p.0) (sym (read_new _ _ (absent_in_gap _ _ _ c.in-Err.ensures.absent) (sym c.insert.ensures.answer ∙ c.if-insert.true)))

pub returns-then-insert-clause-state : goal.returns-then-insert-clause-state
returns-then-insert-clause-state c =
    rw (c.insert.ensures.state, c.if-insert.true) (ap (λ p. p.1) (sym (read_new _ _ (absent_in_gap _ _ _ c.in-Err.ensures.absent) (sym c.insert.ensures.answer ∙ c.if-insert.true))))

pub returns-else-insert-clause-answer : goal.returns-else-insert-clause-answer
returns-else-insert-clause-answer c =
    ap (λ p. p.0) (sym (read_full _ _ (absent_in_gap _ _ _ c.in-Err.ensures.absent) (sym c.insert.ensures.answer ∙ c.if-insert.false)))

pub returns-else-insert-clause-state : goal.returns-else-insert-clause-state
returns-else-insert-clause-state c =
    rw (c.insert.ensures.state, c.if-insert.false) (ap (λ p. p.1) (sym (read_full _ _ (absent_in_gap _ _ _ c.in-Err.ensures.absent) (sym c.insert.ensures.answer ∙ c.if-insert.false))))
