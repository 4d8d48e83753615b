use Rattle.ar_tables.proofs.Overrides.{overridden, passed_over, not_overridden}
use Rattle.ar_tables.proofs.sci.gsi_among.Goals as goal

pub returns-in-Some-gsi_in : goal.returns-in-Some-gsi_in
returns-in-Some-gsi_in c = overridden _ _ _ _ _ c.loop-entry.invariant c.in-Some.ensures.steps _ c.in-Some-gsi_in.ensures

pub loop-entry-preserved : goal.loop-entry-preserved
loop-entry-preserved c = passed_over _ _ _ _ _ c.loop-entry.invariant c.in-Some.ensures.steps _ c.gsi_in.ensures c.in_default.is

pub returns : goal.returns
returns c = not_overridden _ _ _ c.loop-entry.invariant c.in-None.ensures.steps.0
