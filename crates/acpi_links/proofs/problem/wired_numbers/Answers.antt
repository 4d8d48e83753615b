use Rattle.std.proofs.Common.{arith}
use Rattle.acpi_links.proofs.Posed.{number_more, numbers_end}
use Rattle.acpi_links.proofs.problem.wired_numbers.Goals as goal

pub loop-pin-preserved : goal.loop-pin-preserved
loop-pin-preserved c =
    let few = c.in_ok-push_wired.ensures.few in
    let before = c.loop-pin.invariant.1 in
    (number_more _ c.loop-pin.list.items _ c.args.pins.now c.loop-pin.pin-index _ c.loop-pin.invariant.0 (omega arith) c.loop-pin-item.is c.in_ok-push_wired.ensures.items, omega arith)

pub returns-clause-value : goal.returns-clause-value
returns-clause-value c = numbers_end _ c.loop-pin.list.items c.args.pins.now c.loop-pin.pin-index c.loop-pin.invariant.0 (omega arith)
