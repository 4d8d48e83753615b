use Rattle.acpi_configure.proofs.Telling.{bus_asked_made}
use Rattle.acpi_configure.proofs.for_kernels.ask_bus.Goals as goal

pub returns-in_err-state-clause-evaluated : goal.returns-in_err-state-clause-evaluated
returns-in_err-state-clause-evaluated g c = bus_asked_made g.S.Space.accesses c.args.device.now c.in_err-state.ensures.evaluated

pub returns-clause-evaluated : goal.returns-clause-evaluated
returns-clause-evaluated g c = bus_asked_made g.S.Space.accesses c.args.device.now c.in_ok-state.ensures.evaluated
