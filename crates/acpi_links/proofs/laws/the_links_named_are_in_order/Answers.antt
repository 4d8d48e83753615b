use Rattle.acpi_links.proofs.Leading.{links_in_order}
use Rattle.acpi_links.proofs.laws.the_links_named_are_in_order.Goals as goal

pub returns : goal.returns
returns c = links_in_order
