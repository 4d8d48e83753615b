use Rattle.std.proofs.Common.{arith}
use Rattle.ar_space.proofs.Changes.{does_same, does_err, same_ok}
use Rattle.aml_objects.proofs.Copying.{same_each, same_more, each_end}
use Rattle.aml_objects.specs.Copies.{package_copy}
use Rattle.aml_objects.proofs.copies.+copies.Goals as goal

pub copy_each-loop-element-preserved : goal.copy_each-loop-element-preserved
copy_each-loop-element-preserved t c = same_more _ _ _ _ (same_ok _ _ (same_each (package_copy c.args.levels) c.args.elements.now c.loop-element.done c.loop-element.element-index _ c.loop-element.invariant (omega arith) c.element-item.is) c.in_ok-copy.ensures) c.in_ok-push.ensures.ok

pub copy_each-returns : goal.copy_each-returns
copy_each-returns t c = each_end (package_copy c.args.levels) c.args.elements.now c.loop-element.done c.loop-element.element-index c.loop-element.invariant (omega arith)

pub copy_each-returns-in_err-copy : goal.copy_each-returns-in_err-copy
copy_each-returns-in_err-copy t c = does_same (same_each (package_copy c.args.levels) c.args.elements.now c.loop-element.done c.loop-element.element-index _ c.loop-element.invariant (omega arith) c.element-item.is) (does_err _ _ c.in_err-copy.ensures c.from_residual.ensures)
