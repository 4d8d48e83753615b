use Rattle.acpi_configure.proofs.AllAsked.{each_asked}
use Rattle.acpi_configure.proofs.laws.each_other_device_is_asked.Goals as goal

pub returns : goal.returns
returns g c = each_asked
