use Rattle.route_report.proofs.Steps.{ascending_on, ascending_fail, ascending_done}
use Rattle.route_report.proofs.line.add_ascending.Goals as goal

pub loop-next-preserved : goal.loop-next-preserved
loop-next-preserved c = ascending_on c.args.n c.loop-next.numbers.items c.in-Some.next.now c.loop-next.words c.take.new.self _ c.in-Some.ensures.some c.loop-next.invariant c.add_next.new.numbers.items c.in_ok-add_next.ensures

pub returns-in_err-add_next : goal.returns-in_err-add_next
returns-in_err-add_next c = ascending_fail c.args.n c.loop-next.numbers.items c.in-Some.next.now c.loop-next.words c.take.new.self _ c.in-Some.ensures.some c.loop-next.invariant c.in_err-add_next.field-0.0 c.from_residual.result _ c.in_err-add_next.ensures c.from_residual.ensures

pub returns : goal.returns
returns c = ascending_done c.args.n c.loop-next.numbers.items c.loop-next.words _ c.in_default.ensures.none c.loop-next.invariant
