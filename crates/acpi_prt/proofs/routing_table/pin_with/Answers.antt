use Rattle.acpi_prt.proofs.Stopped.{pin_made}
use Rattle.acpi_prt.proofs.routing_table.pin_with.Goals as goal

pub returns-in_err-route-clause-evaluated : goal.returns-in_err-route-clause-evaluated
returns-in_err-route-clause-evaluated g c =
    pin_made g.S.Space.accesses _ _ _ _ _ _ _ _ c.in_ok-address.ensures c.in_ok-pin.ensures c.in_ok-source_tested.ensures c.in_ok-index.ensures c.in_ok-letter.ensures c.in_err-route.ensures.evaluated

pub returns-clause-evaluated : goal.returns-clause-evaluated
returns-clause-evaluated g c =
    pin_made g.S.Space.accesses _ _ _ _ _ _ _ _ c.in_ok-address.ensures c.in_ok-pin.ensures c.in_ok-source_tested.ensures c.in_ok-index.ensures c.in_ok-letter.ensures c.in_ok-route.ensures.evaluated
