use Rattle.aml_frames.proofs.Weighing.{falls_paid}
use Rattle.std.proofs.Common.{refl, rules, arith}
use Rattle.aml_frames.proofs.PassedItems.{never_memory, refused_paid}
use Rattle.aml_evaluation.proofs.Machine.{taking}
use Rattle.aml_evaluation.proofs.stack.step_term.Goals as goal

pub returns : goal.returns
returns g c = record {
  falls = falls_paid c.follow.result c.begin_term.new.run.1 c.args.run.now.1 _ _ _ _ c.in_ok-next.ensures.paid c.in_ok-next.ensures.falls c.follow.ensures.falls;
  refused = never_memory _ c.follow.result c.follow.ensures.memory;
  means = search (rules, taking);
}

pub returns-in_err-next : goal.returns-in_err-next
returns-in_err-next g c = record {
  falls = search (rules, taking);
  refused = refused_paid _ c.from_residual.result _ _ _ _ c.in_err-next.ensures.refused refl c.from_residual.ensures;
  means = search (rules, taking);
}
