-- what is left to gather, added to what is gathered, gives what there is to gather
use Rattle.std.proofs.Common.{◌≡◌}
use Rattle.acpi_resources.specs.Current.{current_of}
use Rattle.acpi_resources.proofs.Gathering.{gathered}
use Rattle.acpi_resources.proofs.current_resources.current.Given as goal

abbrev pub invariant-loop-item : goal.invariant-loop-item
invariant-loop-item l = current_of l.bytes ≡ gathered l.numbers.keys l.item-iterator
