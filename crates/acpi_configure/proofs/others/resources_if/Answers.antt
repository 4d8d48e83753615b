use Rattle.acpi_configure.proofs.Asked.{if_present}
use Rattle.acpi_configure.proofs.others.resources_if.Goals as goal

pub returns-in-true-clause-evaluated : goal.returns-in-true-clause-evaluated
returns-in-true-clause-evaluated g c = if_present g.S.Space.accesses c.args.present c.args.device.now _ _ c.in-true.is c.get_current_resources.ensures.evaluated
