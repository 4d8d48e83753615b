use Rattle.std.proofs.Common.{rules, arith}
use Rattle.aml_frames.proofs.Stepping.{leads_fatal}
use Rattle.aml_statements.proofs.statements.begin_fatal.Goals as goal

pub returns-clause-steps : goal.returns-clause-steps
returns-clause-steps g c = record {
  spent = omega arith;
  falls = first_of (search rules, grind arith);
  means = leads_fatal c.args.act.now c.advance.new.self c.advance-2.new.self c.args.levels c.advance.ensures c.advance-2.ensures;
  ends = search rules;
}
