use Rattle.std.proofs.Common.{false, rules, arith}
use Rattle.aml_marks.specs.Marked.{count_at}
use Rattle.aml_declarations.proofs.MadeValues.{each_refusal, each_value}
use Rattle.aml_frames.proofs.Stepping.{leads_begun}
use Rattle.aml_operators.proofs.short_values.paid_value.Goals as goal

pub returns-in-Some : goal.returns-in-Some
returns-in-Some g c = record {
  value =
      let term = c.take_opcode.ensures.term c.in-Some.place (count_at c.args.act.now.marks) false c.in-Some.is in
      each_value _ _ c.coded_value.result (λ v l. leads_begun c.args.act.now c.take_opcode.new.self c.args.levels c.in-Some.place term c.take_opcode.ensures.moves l) c.coded_value.ensures.value;
  refused =
      let term = c.take_opcode.ensures.term c.in-Some.place (count_at c.args.act.now.marks) false c.in-Some.is in
      each_refusal _ _ c.coded_value.result (λ e l. leads_begun c.args.act.now c.take_opcode.new.self c.args.levels c.in-Some.place term c.take_opcode.ensures.moves l) c.coded_value.ensures.refused;
  behind = first_of (search rules, grind arith);
  spent = first_of (search rules, grind arith);
  kept = first_of (search rules, grind arith);
  moves = first_of (search rules, grind arith);
}
