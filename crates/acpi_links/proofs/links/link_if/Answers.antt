use Rattle.acpi_links.proofs.Stopped.{if_present}
use Rattle.acpi_links.proofs.links.link_if.Goals as goal

pub returns-in-true-clause-evaluated : goal.returns-in-true-clause-evaluated
returns-in-true-clause-evaluated g c = if_present g.S.Space.accesses c.args.avoid.now c.args.present c.args.link.now c.in-true.is c.link_found.ensures.evaluated
