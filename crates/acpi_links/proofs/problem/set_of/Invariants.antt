use Rattle.std.proofs.Common.{◌≡◌, ◌≤◌, length, drop}
use Rattle.acpi_resources.specs.Numbers.{with_numbers, set_of}
use Rattle.acpi_links.proofs.problem.set_of.Given as goal

abbrev pub invariant-loop-n : goal.invariant-loop-n
invariant-loop-n l = (with_numbers l.set.keys (drop l.n-index l.numbers) ≡ set_of l.numbers) × (length l.set.keys ≤ l.n-index)
