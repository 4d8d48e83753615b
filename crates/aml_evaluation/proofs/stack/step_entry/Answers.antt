use Rattle.std.proofs.Common.{refl, rules, arith}
use Rattle.aml_frames.proofs.Weighing.{falls_met}
use Rattle.aml_frames.proofs.PassedItems.{refused_met}
use Rattle.aml_evaluation.proofs.Machine.{taking}
use Rattle.aml_evaluation.proofs.stack.step_entry.Goals as goal

pub returns-in_ok-next-in-Frame : goal.returns-in_ok-next-in-Frame
returns-in_ok-next-in-Frame g c = record {
  falls = rw c.in-Frame.is (falls_met c.follow.result c.resume.new.run.1 c.args.run.now.1 _ _ _ _ _ c.in_ok-next-in-Frame.ensures.falls c.follow.ensures.falls);
  refused = search (rules, taking);
  means = search (rules, taking);
}

pub returns-in_err-next-in-Frame : goal.returns-in_err-next-in-Frame
returns-in_err-next-in-Frame g c = record {
  falls = search (rules, taking);
  refused = refused_met _ c.from_residual.result _ _ _ _ _ c.in_err-next-in-Frame.ensures.spent refl c.from_residual.ensures;
  means = search (rules, taking);
}
