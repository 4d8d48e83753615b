use Rattle.std.proofs.Common.{sym, ◌∙◌, arith}
use Rattle.std.proofs.lemmas.List.Filters.{FiltersInPlace-more_set, FiltersInPlace-more_no}
use Rattle.std.proofs.lemmas.Bool.{eq-eqb, ne_eqb}
use Rattle.route_model.specs.Routing.{wired_to}
use Rattle.route_solve.proofs.set.keep_busy.Goals as goal
use Rattle.route_solve.proofs.set.keep_busy.Goals.{then-wired_sources-count, else-wired_sources-count}

pub loop-i-preserved : goal.loop-i-preserved
loop-i-preserved c =
    let inv = c.loop-i.invariant in
    let value = c.wired_sources.ensures.value in
    elim c.if-wired_sources-count.branch [
      | then-wired_sources-count w ↦ rw (w.interrupts-is, w.kept-is) (FiltersInPlace-more_set inv (let l = inv.long in omega arith) (eq-eqb (wired_to c.args.wired.now c.index-n.result.now) c.args.count (sym value ∙ w.if-wired_sources-count.true)) c.index-n.ensures)
      | else-wired_sources-count w ↦ rw (w.interrupts-is, w.kept-is) (FiltersInPlace-more_no inv (let l = inv.long in omega arith) (ne_eqb (wired_to c.args.wired.now c.index-n.result.now) c.args.count (λ e. w.if-wired_sources-count.false (value ∙ e))) c.index-n.ensures)
    ]
