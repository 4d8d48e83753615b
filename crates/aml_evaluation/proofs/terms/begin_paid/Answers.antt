use Rattle.std.proofs.Common.{false, rules, arith}
use Rattle.aml_marks.specs.Marked.{count_at}
use Rattle.aml_frames.proofs.Stepping.{leads_begun}
use Rattle.aml_evaluation.proofs.terms.begin_paid.Goals as goal

pub returns-in-Some : goal.returns-in-Some
returns-in-Some g c = record {
  spent = omega arith;
  falls = first_of (search rules, grind arith);
  means = leads_begun c.args.act.now c.take_opcode.new.self c.args.levels c.in-Some.place (c.take_opcode.ensures.term c.in-Some.place (count_at c.args.act.now.marks) false c.in-Some.is) c.take_opcode.ensures.moves c.begin_coded.ensures.means;
  ends = search rules;
}
