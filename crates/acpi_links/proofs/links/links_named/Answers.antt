use Rattle.std.proofs.Common.{arith}
use Rattle.acpi_links.proofs.Named.{route_more, route_end}
use Rattle.acpi_links.proofs.links.links_named.Goals as goal

pub loop-pin-preserved : goal.loop-pin-preserved
loop-pin-preserved c = route_more _ c.loop-pin.links.keys _ c.args.pins.now c.loop-pin.pin-index _ c.loop-pin.invariant (omega arith) c.loop-pin-item.is c.in_ok-add_route.ensures.ok

pub returns-clause-value : goal.returns-clause-value
returns-clause-value c = route_end _ c.loop-pin.links.keys _ c.args.pins.now c.loop-pin.pin-index c.loop-pin.invariant (omega arith) c.in_ok-in_order.ensures.value
