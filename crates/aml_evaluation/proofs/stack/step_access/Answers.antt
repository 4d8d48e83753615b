use Rattle.aml_frames.proofs.Weighing.{falls_free}
use Rattle.std.proofs.Common.{refl, rules, arith}
use Rattle.aml_frames.proofs.PassedItems.{never_memory, refused_free, access_enough}
use Rattle.aml_evaluation.proofs.Machine.{taking}
use Rattle.aml_evaluation.proofs.stack.step_access.Goals as goal

pub returns : goal.returns
returns g c = record {
  falls = let h = rw c.into_inner.ensures at c.in_ok-next.ensures.falls in falls_free c.follow.result c.begin_access.new.run.1 c.args.run.now.1 _ _ _ _ _ c.in_ok-next.ensures.spent h c.follow.ensures.falls;
  refused = never_memory _ c.follow.result c.follow.ensures.memory;
  means = search (rules, taking);
}

pub returns-in_err-next : goal.returns-in_err-next
returns-in_err-next g c = record {
  falls = search (rules, taking);
  refused = refused_free _ c.from_residual.result _ _ _ _ _ c.in_err-next.ensures.spent refl (access_enough c.args.access) c.from_residual.ensures;
  means = search (rules, taking);
}
