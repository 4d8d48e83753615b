use Rattle.std.proofs.Common.{◌≡◌, ◌++◌, drop}
use Rattle.acpi_configure.specs.Others.{numbers_in}
use Rattle.acpi_configure.proofs.other_lines.with_numbers.Given as goal

abbrev pub invariant-loop-line : goal.invariant-loop-line
invariant-loop-line l = l.list.items ++ numbers_in (drop l.line-index l.asked) ≡ l.avoid ++ numbers_in l.asked
