-- what is left to do gives what there is to do
use Rattle.std.proofs.Common.{◌≡◌}
use Rattle.acpi_resources.specs.Offers.{offered, possible_as}
use Rattle.acpi_resources.proofs.possible_resources.possible_as.Given as goal

abbrev pub invariant-loop-item : goal.invariant-loop-item
invariant-loop-item l = possible_as l.exclusives l.bytes ≡ offered l.exclusives l.found l.item-iterator
