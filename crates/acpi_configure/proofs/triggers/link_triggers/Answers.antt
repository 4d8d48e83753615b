use Rattle.std.proofs.Common.{arith}
use Rattle.acpi_configure.specs.Triggers.{link_trigger}
use Rattle.acpi_configure.proofs.Turns.{more_plain, end_plain, answer-is}
use Rattle.acpi_configure.proofs.triggers.link_triggers.Goals as goal

pub loop-link-preserved : goal.loop-link-preserved
loop-link-preserved c =
    more_plain link_trigger c.loop-link.list.items _ c.args.links.now c.loop-link.link-index c.in_ok-line.line _ c.loop-link.invariant (omega arith) c.link-item.is c.in_ok-push.ensures.items (cc (c.in_ok-line.ensures.value.is tt))

pub returns-clause-value : goal.returns-clause-value
returns-clause-value c = answer-is _ _ (end_plain link_trigger c.loop-link.list.items c.args.links.now c.loop-link.link-index c.loop-link.invariant (omega arith))
