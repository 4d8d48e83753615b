use Rattle.std.proofs.Common.{◌≡◌, ◌++◌, map, drop}
use Rattle.acpi_configure.specs.Lines.{pin_line}
use Rattle.acpi_configure.proofs.pin_lines.pin_lines.Given as goal

abbrev pub invariant-loop-device : goal.invariant-loop-device
invariant-loop-device l = l.list.items ++ map (pin_line l.gives) (drop l.device-index l.pins) ≡ map (pin_line l.gives) l.pins
