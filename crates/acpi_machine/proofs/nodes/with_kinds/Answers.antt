use Rattle.acpi_machine.proofs.Walked.{one_more, none_more}
use Rattle.acpi_machine.proofs.nodes.with_kinds.Goals as goal

pub loop-path-preserved-in-None-kind_at : goal.loop-path-preserved-in-None-kind_at
loop-path-preserved-in-None-kind_at c = none_more _ _ _ _ c.loop-path.invariant c.in-None-kind_at.ensures

pub loop-path-preserved : goal.loop-path-preserved
loop-path-preserved c = one_more _ _ _ _ _ _ c.loop-path.invariant c.in-Some-kind_at.ensures c.in_ok-push-in-Some-kind_at.ensures.items
