use Rattle.std.proofs.Common.{◌≡◌, drop}
use Rattle.acpi_configure.specs.Lines.{given_to}
use Rattle.acpi_configure.proofs.pin_lines.given_to.Given as goal

abbrev pub invariant-loop-path : goal.invariant-loop-path
invariant-loop-path l = given_to (drop l.path-index l.gives) l.link ≡ given_to l.gives l.link
