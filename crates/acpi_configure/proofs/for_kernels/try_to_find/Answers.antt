use Rattle.acpi_machine.proofs.Stopping.{all_made}
use Rattle.acpi_configure.specs.ForKernels.{bus_told}
use Rattle.acpi_configure.proofs.Stopped.{attempt_made}
use Rattle.acpi_configure.proofs.for_kernels.try_to_find.Goals as goal

pub returns-clause-evaluated : goal.returns-clause-evaluated
returns-clause-evaluated g c = attempt_made bus_told _ (all_made c.find_bus-bus.ensures.evaluated)
