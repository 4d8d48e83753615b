use Rattle.std.proofs.Common.{sym, ◌∙◌, ap, Err, eqb-true}
use Rattle.ar_space.proofs.Outcomes.{answers_is}
use Rattle.route_report.proofs.Texts.{nothing_read, heading_fail, heading_on}
use Rattle.route_report.proofs.reading.read.Goals as goal

pub returns-then-is_empty : goal.returns-then-is_empty
returns-then-is_empty c = answers_is (ap Err c.bad_line.ensures ∙ sym (nothing_read c.args.text.now (eqb-true _ _ (sym c.is_empty.ensures ∙ c.if-is_empty.true))))

pub returns-in_err-version : goal.returns-in_err-version
returns-in_err-version c = heading_fail c.args.text.now c.first_line.result.0.now c.first_line.result.1.now c.first_line.ensures.lines c.in_err-version.field-0.0 c.from_residual.result c.in_err-version.ensures.answer c.from_residual.ensures

pub returns : goal.returns
returns c = heading_on c.args.text.now c.first_line.result.0.now c.first_line.result.1.now c.first_line.ensures.lines c.in_ok-version.version c.lines_read.result c.in_ok-version.ensures.answer c.lines_read.ensures
