use Rattle.acpi_configure.proofs.Stopped.{link_set_made}
use Rattle.acpi_configure.proofs.settling.set_link.Goals as goal

pub returns-in_err-outcome-clause-evaluated : goal.returns-in_err-outcome-clause-evaluated
returns-in_err-outcome-clause-evaluated g c = link_set_made g.S.Space.accesses c.args.link.now c.args.number c.in_err-outcome.ensures.evaluated

pub returns-clause-evaluated : goal.returns-clause-evaluated
returns-clause-evaluated g c = link_set_made g.S.Space.accesses c.args.link.now c.args.number c.in_ok-outcome.ensures.evaluated
