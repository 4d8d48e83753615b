-- what is left to count, added to what is counted, is what there is to count
use Rattle.std.proofs.Common.{◌≡◌, ◌≤◌, length}
use Rattle.acpi_resources.specs.Items.{items_of}
use Rattle.acpi_resources.specs.EndTags.{length_before_end}
use Rattle.acpi_resources.proofs.BeforeEnd.{counted}
use Rattle.acpi_resources.proofs.end_tag.length_before_end_tag.Given as goal

abbrev pub invariant-items : goal.invariant-items
invariant-items l = (length l.rest ≤ length l.bytes) × (length_before_end (items_of l.bytes) ≡ counted l.bytes l.rest)

abbrev pub decreases-items : goal.decreases-items
decreases-items l = length l.rest
