use Rattle.acpi_links.proofs.Wired.{counts_in_order, counts_few}
use Rattle.acpi_links.proofs.laws.pins_are_counted_in_order.Goals as goal

pub returns-clause-ascend : goal.returns-clause-ascend
returns-clause-ascend c = counts_in_order

pub returns-clause-few : goal.returns-clause-few
returns-clause-few c = counts_few
