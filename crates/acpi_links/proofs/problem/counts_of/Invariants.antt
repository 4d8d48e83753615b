use Rattle.std.proofs.Common.{◌≡◌, ◌≤◌, length, take, drop}
use Rattle.std.specs.Map.{keys_of}
use Rattle.acpi_resources.specs.Numbers.{with_numbers, set_of}
use Rattle.acpi_links.proofs.Tally.{HasCounts}
use Rattle.acpi_links.proofs.problem.counts_of.Given as goal

abbrev pub invariant-loop-n : goal.invariant-loop-n
invariant-loop-n l =
    HasCounts l.counts (take l.n-index l.numbers)
    × (with_numbers (keys_of l.counts.entries) (drop l.n-index l.numbers) ≡ set_of l.numbers)
    × (length l.counts.entries ≤ l.n-index)
