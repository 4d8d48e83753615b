use Rattle.std.proofs.Common.{◌≡◌, drop}
use Rattle.acpi_configure.specs.Triggers.{flags_of}
use Rattle.acpi_configure.proofs.triggers.flags_of.Given as goal

abbrev pub invariant-loop-line : goal.invariant-loop-line
invariant-loop-line l = flags_of l.source (drop l.line-index l.overrides) ≡ flags_of l.source l.overrides
