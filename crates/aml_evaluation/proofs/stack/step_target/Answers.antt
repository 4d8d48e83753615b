use Rattle.std.proofs.Common.{refl, rules, arith}
use Rattle.aml_frames.proofs.PassedItems.{never_memory, refused_free, target_enough}
use Rattle.aml_evaluation.proofs.Machine.{taking}
use Rattle.aml_evaluation.proofs.stack.step_target.Goals as goal

pub returns-in_err-next : goal.returns-in_err-next
returns-in_err-next g c = record {
  falls = search (rules, taking);
  refused = refused_free _ c.from_residual.result _ _ _ _ _ c.in_err-next.ensures.steps.spent refl (target_enough c.args.target_use) c.from_residual.ensures;
  means = search (rules, taking);
}

pub returns : goal.returns
returns g c = record {
  falls = search (rules, taking);
  refused = never_memory _ c.follow.result c.follow.ensures.memory;
  means = search (rules, taking);
}
