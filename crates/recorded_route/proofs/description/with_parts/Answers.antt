use Rattle.recorded_route.proofs.Parts.{parts_on, parts_bad, parts_end}
use Rattle.recorded_route.proofs.description.with_parts.Goals as goal

pub returns-in_err-image : goal.returns-in_err-image
returns-in_err-image c = parts_bad _ _ _ _ _ c.from_residual.result _ c.loop-part.invariant c.loop-part-test.true c.in_err-image.ensures c.from_residual.ensures

pub loop-part-preserved : goal.loop-part-preserved
loop-part-preserved c = parts_on _ _ _ _ _ _ c.loop-part.invariant c.loop-part-test.true c.in_ok-image.ensures

pub returns : goal.returns
returns c = parts_end _ _ _ _ c.loop-part.invariant c.loop-part-test.false
