use Rattle.acpi_configure.proofs.Stopped.{unless_dry}
use Rattle.acpi_configure.proofs.settling.settle_unless.Goals as goal

pub returns-in-false-clause-evaluated : goal.returns-in-false-clause-evaluated
returns-in-false-clause-evaluated g c = unless_dry g.S.Space.accesses c.args.dry c.args.links.now c.args.choice.now c.in-false.is c.settle.ensures.evaluated
