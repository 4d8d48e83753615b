use Rattle.acpi_prt.proofs.Stopped.{linked_made}
use Rattle.acpi_prt.proofs.routing_table.linked.Goals as goal

pub returns-in_err-link-clause-evaluated : goal.returns-in_err-link-clause-evaluated
returns-in_err-link-clause-evaluated g c = linked_made g.S.Space.accesses c.args.path.now c.args.index c.in_err-link.ensures.evaluated

pub returns-in_err-no_index-clause-evaluated : goal.returns-in_err-no_index-clause-evaluated
returns-in_err-no_index-clause-evaluated g c = linked_made g.S.Space.accesses c.args.path.now c.args.index c.in_ok-link.ensures.evaluated

pub returns-clause-evaluated : goal.returns-clause-evaluated
returns-clause-evaluated g c = linked_made g.S.Space.accesses c.args.path.now c.args.index c.in_ok-link.ensures.evaluated
