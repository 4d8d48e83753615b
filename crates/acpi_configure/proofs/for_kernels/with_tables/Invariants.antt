use Rattle.std.proofs.Common.{◌≡◌}
use Rattle.std.specs.Prelude.{filter}
use Rattle.acpi_configure.specs.ForKernels.{has_table}
use Rattle.acpi_configure.proofs.for_kernels.with_tables.Given as goal

abbrev pub invariant-loop-device : goal.invariant-loop-device
invariant-loop-device g l = l.list.items ≡ filter (has_table l.machine) l.yielded
