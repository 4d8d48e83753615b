use Rattle.std.proofs.Common.{ap, sym}
use Rattle.acpi_configure.specs.Lines.{io_apic_of, override_of}
use Rattle.acpi_configure.proofs.Turns.{kept, passed}
use Rattle.acpi_configure.proofs.madt_lines.lines_among.Goals as goal

pub loop-entry-preserved-in-Continue-1 : goal.loop-entry-preserved-in-Continue-1
loop-entry-preserved-in-Continue-1 c = (
  kept io_apic_of _ _ c.loop-entry.yielded c.in-Some.entry _ c.loop-entry.invariant.0 (sym (ap io_apic_of c.in-IoApic.is)) c.in_ok-push-in-IoApic.ensures.items,
  passed override_of _ c.loop-entry.yielded c.in-Some.entry c.loop-entry.invariant.1 (sym (ap override_of c.in-IoApic.is)),
)

pub loop-entry-preserved : goal.loop-entry-preserved
loop-entry-preserved c = (
  passed io_apic_of _ c.loop-entry.yielded c.in-Some.entry c.loop-entry.invariant.0 (sym (ap io_apic_of c.in-SourceOverride.is)),
  kept override_of _ _ c.loop-entry.yielded c.in-Some.entry _ c.loop-entry.invariant.1 (sym (ap override_of c.in-SourceOverride.is)) c.in_ok-push-in-SourceOverride.ensures.items,
)
