use Rattle.acpi_resources.proofs.Exclusive.{only_exclusive}
use Rattle.acpi_resources.proofs.laws.only_exclusive_offers_are_refused.Goals as goal

pub returns : goal.returns
returns c = only_exclusive
