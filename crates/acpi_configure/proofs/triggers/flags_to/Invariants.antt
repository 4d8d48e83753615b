use Rattle.std.proofs.Common.{◌≡◌, drop}
use Rattle.acpi_configure.specs.Triggers.{flags_to}
use Rattle.acpi_configure.proofs.triggers.flags_to.Given as goal

abbrev pub invariant-loop-line : goal.invariant-loop-line
invariant-loop-line l = flags_to l.gsi (drop l.line-index l.overrides) ≡ flags_to l.gsi l.overrides
