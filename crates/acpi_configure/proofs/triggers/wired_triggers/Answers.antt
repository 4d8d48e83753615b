use Rattle.std.proofs.Common.{arith, get_or}
use Rattle.std.proofs.lemmas.List.{get_or_default}
use Rattle.acpi_configure.specs.Triggers.{wired_trigger}
use Rattle.acpi_configure.proofs.Turns.{more_plain, end_plain}
use Rattle.acpi_configure.proofs.triggers.wired_triggers.Goals as goal

pub loop-interrupt-preserved : goal.loop-interrupt-preserved
loop-interrupt-preserved c =
    let i = c.loop-interrupt.interrupt-index in
    let wired = c.args.wired.now in
    more_plain (wired_trigger c.args.overrides.now) c.loop-interrupt.list.items _ wired i _ (get_or wired i (0, 0)) c.loop-interrupt.invariant (omega arith) (get_or_default wired i (0, 0) (get_or wired i (0, 0)) (omega arith)) c.in_ok-push.ensures.items c.wired_trigger.ensures

pub returns : goal.returns
returns c = end_plain (wired_trigger c.args.overrides.now) c.loop-interrupt.list.items c.args.wired.now c.loop-interrupt.interrupt-index c.loop-interrupt.invariant (omega arith)
