use Rattle.std.proofs.Common.{rules, arith}
use Rattle.aml_frames.specs.declared.frames.Frame.TheVariants as frames
use Rattle.aml_frames.specs.declared.frames.Next.TheVariants as next
use Rattle.aml_frames.specs.declared.uses.Dyadic.TheVariants as dyadic
use Rattle.aml_frames.specs.declared.uses.Monadic.TheVariants as monadic
use Rattle.aml_frames.proofs.Knowing.{leads_on}
use Rattle.aml_frames.proofs.Weighing.{step_enough}
use Rattle.aml_declarations.proofs.BankTerms.{falls_few}
use Rattle.aml_operators.proofs.WideSteps.{leads_convert, leads_to_string, leads_middle}
use Rattle.aml_operators.proofs.wide.begin_asked.Goals as goal

pub returns-in-Convert : goal.returns-in-Convert
returns-in-Convert g c = record {
  spent = omega arith;
  falls = grind (arith, step_enough);
  means = rw c.in-Convert.is (leads_on (next.Term c.args.levels (frames.Operand (monadic.Convert c.in-Convert.conversion) c.args.levels)) c.args.act.now _ c.begin_monadic.ensures.steps.means (leads_convert c.args.levels c.in-Convert.conversion));
  ends = search rules;
}

pub returns-in-ToString : goal.returns-in-ToString
returns-in-ToString g c = record {
  spent = omega arith;
  falls = grind (arith, step_enough);
  means = rw c.in-ToString.is (leads_on (next.Term c.args.levels (frames.First dyadic.ToString c.args.levels)) c.args.act.now _ c.begin_dyadic.ensures.steps.means (leads_to_string c.args.levels));
  ends = search rules;
}

pub returns-in-Mid : goal.returns-in-Mid
returns-in-Mid g c = record {
  spent = omega arith;
  falls = grind (arith, step_enough);
  means = rw c.in-Mid.is (leads_on (next.Term c.args.levels (frames.First dyadic.Mid c.args.levels)) c.args.act.now _ c.begin_dyadic-in-Mid.ensures.steps.means (leads_middle c.args.levels));
  ends = search rules;
}

pub returns-in-BankField : goal.returns-in-BankField
returns-in-BankField g c = record {
  spent = omega arith;
  falls = falls_few c.begin_bank_fields.result c.begin_bank_fields.ensures.falls;
  means = search rules;
  ends = search rules;
}
