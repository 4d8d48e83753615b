use Rattle.std.proofs.Common.{sym, arith, eqb-true}
use Rattle.std.specs.Str.Lines.{lines}
use Rattle.machine_text.proofs.Reading.{lines_on, lines_fail, lines_done}
use Rattle.machine_text.proofs.machine_lines.lines_read.Goals as goal

pub returns-in_err-line : goal.returns-in_err-line
returns-in_err-line c =
    lines_fail c.loop-rest.n c.loop-rest.draft c.first_line.result.0.now (lines c.loop-rest.rest.now) (lines c.first_line.result.1.now) _ c.first_line.ensures.lines c.loop-rest.invariant.same
    c.in_err-line.field-0.0 c.from_residual.result _ c.in_err-line.ensures c.from_residual.ensures

pub loop-rest-preserved : goal.loop-rest-preserved
loop-rest-preserved c = record {
  same = lines_on c.loop-rest.n c.loop-rest.draft c.first_line.result.0.now (lines c.loop-rest.rest.now) (lines c.first_line.result.1.now) _ c.first_line.ensures.lines c.loop-rest.invariant.same
      c.line.new.draft c.in_ok-line.ensures;
  few = omega (arith, c.loop-rest.invariant.few, c.first_line.ensures.shorter);
}

pub returns : goal.returns
returns c = lines_done c.loop-rest.n c.loop-rest.draft c.loop-rest.rest.now _ (eqb-true _ _ (sym c.loop-rest-test.ensures)) c.loop-rest.invariant.same
