use Rattle.acpi_links.proofs.Wired.{set_in_order}
use Rattle.acpi_links.proofs.laws.the_numbers_of_a_set_ascend.Goals as goal

pub returns : goal.returns
returns c = set_in_order
