use Rattle.std.proofs.Common.{ap, ◌∙◌, arith, map}
use Rattle.std.proofs.lemmas.List.{map-append}
use Rattle.ar_space.proofs.Changes.{does_same, does_seen_err, same_ok}
use Rattle.aml_world.specs.state.Given.{given_of}
use Rattle.aml_meaning.proofs.Exports.{same_each, same_more, each_end}
use Rattle.aml_meaning.specs.Exporting.{package_exported}
use Rattle.aml_interp.proofs.export.+exporting.Goals as goal

pub each_exported-loop-element-preserved : goal.each_exported-loop-element-preserved
each_exported-loop-element-preserved g t c = same_more _ _ _ _ _ (same_ok _ _ (same_each g.S.Space.accesses (package_exported g.S.Space.accesses c.args.levels) c.args.elements.now (map given_of c.loop-element.done.items) c.loop-element.element-index _ c.loop-element.invariant (omega arith) c.element-item.is) c.in_ok-datum.ensures) (ap (map given_of) c.in_ok-push.ensures.items ∙ map-append given_of _ _)

pub each_exported-returns : goal.each_exported-returns
each_exported-returns g t c = each_end g.S.Space.accesses (package_exported g.S.Space.accesses c.args.levels) c.args.elements.now (map given_of c.loop-element.done.items) c.loop-element.element-index c.loop-element.invariant (omega arith)

pub each_exported-returns-in_err-datum : goal.each_exported-returns-in_err-datum
each_exported-returns-in_err-datum g t c = does_same (same_each g.S.Space.accesses (package_exported g.S.Space.accesses c.args.levels) c.args.elements.now (map given_of c.loop-element.done.items) c.loop-element.element-index _ c.loop-element.invariant (omega arith) c.element-item.is) (does_seen_err c.from_residual.result (λ v. map given_of v.items) _ _ c.in_err-datum.ensures c.from_residual.ensures)
