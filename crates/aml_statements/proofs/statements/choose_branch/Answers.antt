use Rattle.std.proofs.Common.{rules, arith}
use Rattle.aml_frames.specs.declared.frames.Frame.TheVariants as frames
use Rattle.aml_frames.proofs.Knowing.{taken_known, if_known}
use Rattle.aml_statements.proofs.statements.choose_branch.Goals as goal

pub returns-in-Some-clause-steps : goal.returns-in-Some-clause-steps
returns-in-Some-clause-steps g c = record {
  spent = omega arith;
  falls = first_of (search rules, grind arith);
  means =
      let integer = rw c.in-Some.is at c.in_ok-number.ensures.integer in
      let behind = rw c.in-Some.is at c.in_ok-number.ensures.behind in
      let h = rw c.is_true.ensures at c.next_branch.ensures.steps.means in
      taken_known c.args.act.now c.args.levels c.in-Some.number (frames.If c.args.levels c.args.outer) integer behind (if_known c.known_integer.new.act c.args.levels c.in-Some.number c.args.outer h);
  ends = search rules;
}
