use Rattle.std.proofs.Common.{◌≡◌, ◌++◌, drop}
use Rattle.route_check.specs.Claimed.{gives_of}
use Rattle.acpi_configure.proofs.chosen_lines.gives_of.Given as goal

abbrev pub invariant-loop-i : goal.invariant-loop-i
invariant-loop-i l = l.list.items ++ gives_of (drop l.i l.links) (drop l.i l.choice) ≡ gives_of l.links l.choice
