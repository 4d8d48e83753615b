use Rattle.std.proofs.Common.{rules, arith}
use Rattle.aml_frames.proofs.Stepping.{coding}
use Rattle.aml_frames.proofs.Using.{beginning_terms}
use Rattle.aml_frames.proofs.Weighing.{step_enough}
use Rattle.aml_operators.proofs.WideSteps.{beginning_wide}
use Rattle.aml_evaluation.proofs.terms.begin_coded.Goals as goal

pub returns-in-Operator : goal.returns-in-Operator
returns-in-Operator g c = record {
  spent = omega arith;
  falls = grind (arith, step_enough);
  means = search (rules, beginning_terms, coding);
  ends = search (rules, coding);
}

pub returns-in-Statement : goal.returns-in-Statement
returns-in-Statement g c = record {
  spent = omega arith;
  falls = grind (arith, step_enough);
  means = search (rules, beginning_terms, coding);
  ends = search (rules, coding);
}

pub returns-in-Wide : goal.returns-in-Wide
returns-in-Wide g c = record {
  spent = omega arith;
  falls = grind (arith, step_enough);
  means = search (rules, beginning_wide, coding);
  ends = search (rules, beginning_wide, coding);
}

pub returns-in-Unsupported : goal.returns-in-Unsupported
returns-in-Unsupported g c = record {
  spent = omega arith;
  falls = grind (arith, step_enough);
  means = search (rules, beginning_terms, coding);
  ends = search (rules, coding);
}
