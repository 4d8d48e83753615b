use Rattle.std.proofs.Common.{rules, arith}
use Rattle.aml_frames.specs.declared.frames.Frame.TheVariants as frames
use Rattle.aml_frames.specs.declared.frames.Next.TheVariants as next
use Rattle.aml_frames.proofs.Knowing.{leads_on}
use Rattle.aml_frames.proofs.Stepping.{leads_if}
use Rattle.aml_statements.proofs.statements.begin_if.Goals as goal

pub returns-clause-steps : goal.returns-clause-steps
returns-clause-steps g c = record {
  spent = omega arith;
  falls = first_of (search rules, grind arith);
  means = leads_on (next.Term c.args.levels (frames.If c.args.levels c.open-outer.result)) c.open-outer.new.self _ c.choose_branch.ensures.steps.means (leads_if c.args.act.now c.open-outer.new.self c.args.levels c.open-outer.result c.open-outer.ensures.inside c.open-outer.ensures.outer);
  ends = search rules;
}
