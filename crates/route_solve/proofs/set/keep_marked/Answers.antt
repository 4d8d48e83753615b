use Rattle.std.proofs.Common.{sym, ◌∙◌, arith}
use Rattle.std.proofs.lemmas.List.Filters.{FiltersInPlace-more_set, FiltersInPlace-more_no}
use Rattle.route_solve.proofs.set.keep_marked.Goals as goal
use Rattle.route_solve.proofs.set.keep_marked.Goals.{then-is_marked, else-is_marked}

pub loop-i-preserved : goal.loop-i-preserved
loop-i-preserved c =
    let inv = c.loop-i.invariant in
    elim c.if-is_marked.branch [
      | then-is_marked w ↦ rw (w.places-is, w.kept-is) (FiltersInPlace-more_set inv (let l = inv.long in omega arith) (sym c.is_marked.ensures ∙ w.if-is_marked.true) c.index-l.ensures)
      | else-is_marked w ↦ rw (w.places-is, w.kept-is) (FiltersInPlace-more_no inv (let l = inv.long in omega arith) (sym c.is_marked.ensures ∙ w.if-is_marked.false) c.index-l.ensures)
    ]
