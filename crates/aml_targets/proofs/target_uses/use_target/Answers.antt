use Rattle.std.proofs.Common.{refl, rules, arith}
use Rattle.ar_space.specs.Change.{give}
use Rattle.aml_meaning.specs.declared.flow.Flow.TheVariants as flow
use Rattle.aml_frames.specs.declared.frames.Frame.TheVariants as frames
use Rattle.aml_frames.proofs.Stepping.{leads_value}
use Rattle.aml_targets.proofs.target_uses.use_target.Goals as goal

pub returns-in-Notify : goal.returns-in-Notify
returns-in-Notify g c = record {
  spent = omega arith;
  falls = first_of (search rules, grind arith);
  means = rw c.in-Notify.is (leads_value c.in-Notify.levels frames.Pause (λ v. give flow.Next) refl);
  ends = search rules;
}
