use Rattle.acpi_configure.proofs.Telling.{not_asked}
use Rattle.acpi_configure.proofs.for_kernels.tell_if.Goals as goal

pub returns-in-false-clause-value : goal.returns-in-false-clause-value
returns-in-false-clause-value g c = not_asked g.S.Space.accesses c.args.kernel c.args.report c.args.machine.now c.in-false.is
