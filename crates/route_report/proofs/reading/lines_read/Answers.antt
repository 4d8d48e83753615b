use Rattle.std.proofs.Common.{sym, arith, eqb-true}
use Rattle.route_report.specs.Lines.{lines}
use Rattle.route_report.proofs.Texts.{lines_on, lines_fail, lines_done}
use Rattle.route_report.proofs.reading.lines_read.Goals as goal

pub returns-in_err-line : goal.returns-in_err-line
returns-in_err-line c =
    lines_fail c.loop-rest.n c.loop-rest.draft c.first_line.result.0.now (lines c.loop-rest.rest.now) (lines c.first_line.result.1.now) _ c.first_line.ensures.lines c.loop-rest.invariant.same
    c.in_err-line.field-0.0 c.from_residual.result c.in_err-line.ensures c.from_residual.ensures

pub loop-rest-preserved : goal.loop-rest-preserved
loop-rest-preserved c = record {
  same = lines_on c.loop-rest.n c.loop-rest.draft c.first_line.result.0.now (lines c.loop-rest.rest.now) (lines c.first_line.result.1.now) _ c.first_line.ensures.lines c.loop-rest.invariant.same
      c.line.new.draft c.in_ok-line.ensures;
  few = omega (arith, c.loop-rest.invariant.few, c.first_line.ensures.shorter);
}

pub returns : goal.returns
returns c = lines_done c.loop-rest.n c.loop-rest.draft c.loop-rest.rest.now c.claim.result _ (eqb-true _ _ (sym c.loop-rest-test.ensures)) c.loop-rest.invariant.same c.claim.ensures
