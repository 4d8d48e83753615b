use Rattle.acpi_configure.proofs.Stopped.{link_read_made}
use Rattle.acpi_configure.proofs.settling.read_link.Goals as goal

pub returns-in_err-state-clause-evaluated : goal.returns-in_err-state-clause-evaluated
returns-in_err-state-clause-evaluated g c = link_read_made g.S.Space.accesses c.args.link.now c.in_err-state.ensures.evaluated

pub returns-clause-evaluated : goal.returns-clause-evaluated
returns-clause-evaluated g c = link_read_made g.S.Space.accesses c.args.link.now c.in_ok-state.ensures.evaluated
