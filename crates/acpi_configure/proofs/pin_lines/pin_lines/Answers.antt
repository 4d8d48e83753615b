use Rattle.std.proofs.Common.{arith}
use Rattle.acpi_configure.specs.Lines.{pin_line}
use Rattle.acpi_configure.proofs.Turns.{more_plain, end_plain, answer-is}
use Rattle.acpi_configure.proofs.pin_lines.pin_lines.Goals as goal

pub loop-device-preserved : goal.loop-device-preserved
loop-device-preserved c =
    more_plain (pin_line c.args.gives.now) c.loop-device.list.items _ c.args.pins.now c.loop-device.device-index c.in_ok-line.line _ c.loop-device.invariant (omega arith) c.loop-device-item.is c.in_ok-push.ensures.items (cc (c.in_ok-line.ensures.is tt))

pub returns : goal.returns
returns c = answer-is _ _ (end_plain (pin_line c.args.gives.now) c.loop-device.list.items c.args.pins.now c.loop-device.device-index c.loop-device.invariant (omega arith))
