use Rattle.std.proofs.Common.{sym, ◌∙◌, arith}
use Rattle.std.proofs.lemmas.List.Filters.{FiltersInPlace-more_set, FiltersInPlace-more_no}
use Rattle.route_solve.proofs.set.keep_offered.Goals as goal
use Rattle.route_solve.proofs.set.keep_offered.Goals.{then-is_offered, else-is_offered}

pub loop-i-preserved : goal.loop-i-preserved
loop-i-preserved c =
    let inv = c.loop-i.invariant in
    elim c.if-is_offered.branch [
      | then-is_offered w ↦ rw (w.interrupts-is, w.kept-is) (FiltersInPlace-more_set inv (let l = inv.long in omega arith) (sym c.is_offered.ensures ∙ w.if-is_offered.true) c.index-n.ensures)
      | else-is_offered w ↦ rw (w.interrupts-is, w.kept-is) (FiltersInPlace-more_no inv (let l = inv.long in omega arith) (sym c.is_offered.ensures ∙ w.if-is_offered.false) c.index-n.ensures)
    ]
