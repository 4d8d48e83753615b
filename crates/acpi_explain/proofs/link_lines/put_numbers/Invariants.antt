use Rattle.std.proofs.Common.{◌≡◌, ◌++◌, drop, map}
use Rattle.std.specs.Prelude.{decimal}
use Rattle.route_report.specs.Lines.{spaced}
use Rattle.acpi_explain.proofs.link_lines.put_numbers.Given as goal

abbrev pub invariant-loop-number : goal.invariant-loop-number
invariant-loop-number l = l.fn.text.items ++ spaced (map decimal l.numbers) ≡ l.text.items ++ spaced (map decimal (drop l.number-index l.numbers))
