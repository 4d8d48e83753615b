use Rattle.acpi_prt.proofs.Firsts.{none_twice}
use Rattle.acpi_prt.proofs.laws.no_pin_stands_twice.Goals as goal

pub returns : goal.returns
returns g c = none_twice
