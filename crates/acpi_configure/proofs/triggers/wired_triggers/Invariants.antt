use Rattle.std.proofs.Common.{◌≡◌, ◌++◌, map, drop}
use Rattle.acpi_configure.specs.Triggers.{wired_trigger}
use Rattle.acpi_configure.proofs.triggers.wired_triggers.Given as goal

abbrev pub invariant-loop-interrupt : goal.invariant-loop-interrupt
invariant-loop-interrupt l = l.list.items ++ map (wired_trigger l.overrides) (drop l.interrupt-index l.wired) ≡ map (wired_trigger l.overrides) l.wired
