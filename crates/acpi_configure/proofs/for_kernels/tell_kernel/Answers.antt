use Rattle.std.proofs.Common.{ap, ◌∙◌}
use Rattle.ar_tables.specs.Fadts.{sci_interrupt}
use Rattle.acpi_configure.proofs.Telling.{told_of, stops_of, stops_unasked}
use Rattle.acpi_configure.proofs.for_kernels.tell_kernel.Goals as goal

pub returns-clause-value : goal.returns-clause-value
returns-clause-value g c =
    told_of g.S.Space.accesses c.args.machine.now _ _ c.deref.result.now c.in_ok-devices.devices.items _ c.args.report c.deref.ensures.value c.in_ok-devices.ensures.value (c.sci_interrupt-own.ensures ∙ ap sci_interrupt c.fadt.ensures) c.tell_lines.ensures.value

pub returns-clause-evaluated : goal.returns-clause-evaluated
returns-clause-evaluated g c = stops_of g.S.Space.accesses c.args.machine.now _ c.deref.result.now c.in_ok-devices.devices.items c.deref.ensures.value c.in_ok-devices.ensures.value c.tell_lines.ensures.evaluated

pub returns-in_err-devices-clause-evaluated : goal.returns-in_err-devices-clause-evaluated
returns-in_err-devices-clause-evaluated g c = stops_unasked g.S.Space.accesses c.args.machine.now
