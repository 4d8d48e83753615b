use Rattle.std.proofs.Common.{◌≡◌, ◌≤◌, ◌++◌, length, drop}
use Rattle.acpi_links.specs.Problems.{wired_numbers}
use Rattle.acpi_links.proofs.problem.wired_numbers.Given as goal

abbrev pub invariant-loop-pin : goal.invariant-loop-pin
invariant-loop-pin l = (l.list.items ++ wired_numbers (drop l.pin-index l.pins) ≡ wired_numbers l.pins) × (length l.list.items ≤ l.pin-index)
