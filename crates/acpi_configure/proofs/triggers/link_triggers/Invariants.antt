use Rattle.std.proofs.Common.{◌≡◌, ◌++◌, map, drop}
use Rattle.acpi_configure.specs.Triggers.{link_trigger}
use Rattle.acpi_configure.proofs.triggers.link_triggers.Given as goal

abbrev pub invariant-loop-link : goal.invariant-loop-link
invariant-loop-link l = l.list.items ++ map link_trigger (drop l.link-index l.links) ≡ map link_trigger l.links
