use Rattle.std.proofs.Common.{◌≡◌}
use Rattle.std.specs.List.{filter_map}
use Rattle.acpi_configure.specs.Lines.{io_apic_of, override_of}
use Rattle.acpi_configure.proofs.madt_lines.lines_among.Given as goal

abbrev pub invariant-loop-entry : goal.invariant-loop-entry
invariant-loop-entry l = (l.io_apics.items ≡ filter_map io_apic_of l.yielded) × (l.overrides.items ≡ filter_map override_of l.yielded)
