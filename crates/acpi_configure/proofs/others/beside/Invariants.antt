use Rattle.std.proofs.Common.{◌≡◌}
use Rattle.std.specs.Prelude.{filter, not}
use Rattle.acpi_configure.specs.Others.{is_link}
use Rattle.acpi_configure.proofs.others.beside.Given as goal

abbrev pub invariant-loop-path : goal.invariant-loop-path
invariant-loop-path l = l.list.items ≡ filter (λ p. not (is_link l.links p)) l.yielded
