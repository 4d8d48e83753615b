use Rattle.std.proofs.Common.{rules, sym, Ok, Err}
use Rattle.std.specs.Ordering.{nat_cmp}
use Rattle.std.proofs.lemmas.Fn.{always_returns_same}
use Rattle.aml_marks.proofs.Halves.{found_by_halves}
use Rattle.aml_marks.proofs.search.marked_count.Goals as goal

pub returns-in-Ok : goal.returns-in-Ok
returns-in-Ok c =
    let found = c.in-Ok.ensures.position (λ m. nat_cmp m.offset c.args.offset) (always_returns_same _ _ _ (λ a r f' k. search rules)) in
    sym (found_by_halves c.args.marks.now c.args.offset (Ok c.in-Ok.i) c.requires.ascending c.in-Ok.ensures.bound found (record { offset = 0; count = 0 }))

pub returns-in-Err : goal.returns-in-Err
returns-in-Err c =
    let found = c.in-Err.ensures.position (λ m. nat_cmp m.offset c.args.offset) (always_returns_same _ _ _ (λ a r f' k. search rules)) in
    sym (found_by_halves c.args.marks.now c.args.offset (Err c.in-Err.field-0) c.requires.ascending c.in-Err.ensures.bound found)
