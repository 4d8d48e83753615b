use Rattle.acpi_configure.proofs.NotGiven.{not_given}
use Rattle.acpi_configure.proofs.laws.an_interrupt_of_another_device_is_not_given.Goals as goal

pub returns : goal.returns
returns g c = not_given
