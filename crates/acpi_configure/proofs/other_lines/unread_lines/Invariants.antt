use Rattle.std.proofs.Common.{◌≡◌, ◌++◌, drop}
use Rattle.std.specs.List.{filter_map}
use Rattle.acpi_configure.specs.Others.{unread_line}
use Rattle.acpi_configure.proofs.other_lines.unread_lines.Given as goal

abbrev pub invariant-loop-line : goal.invariant-loop-line
invariant-loop-line l = l.list.items ++ filter_map unread_line (drop l.line-index l.asked) ≡ filter_map unread_line l.asked
