use Rattle.route_report.proofs.Steps.{numbers_on, numbers_fail, numbers_done}
use Rattle.route_report.proofs.line.add_numbers.Goals as goal

pub loop-word-preserved : goal.loop-word-preserved
loop-word-preserved c = numbers_on c.args.n c.loop-word.numbers.items c.in-Some.word.now c.loop-word.words c.take.new.self _ c.in-Some.ensures.some c.loop-word.invariant c.add_number.new.numbers.items c.in_ok-add_number.ensures

pub returns-in_err-add_number : goal.returns-in_err-add_number
returns-in_err-add_number c = numbers_fail c.args.n c.loop-word.numbers.items c.in-Some.word.now c.loop-word.words c.take.new.self _ c.in-Some.ensures.some c.loop-word.invariant c.in_err-add_number.field-0.0 c.from_residual.result _ c.in_err-add_number.ensures c.from_residual.ensures

pub returns : goal.returns
returns c = numbers_done c.args.n c.loop-word.numbers.items c.loop-word.words _ c.in_default.ensures.none c.loop-word.invariant
