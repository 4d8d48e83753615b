use Rattle.acpi_resources.proofs.Spelling.{items_of_spelled}
use Rattle.acpi_resources.proofs.laws.an_item_is_read_as_it_is_written.Goals as goal

pub returns : goal.returns
returns c = items_of_spelled
