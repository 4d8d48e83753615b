use Rattle.acpi_prt.proofs.Firsts.{first_counts}
use Rattle.acpi_prt.proofs.laws.the_first_entry_of_a_pin_counts.Goals as goal

pub returns : goal.returns
returns g c = first_counts
