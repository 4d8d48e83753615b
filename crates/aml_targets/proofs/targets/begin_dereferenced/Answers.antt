use Rattle.std.proofs.Common.{false, rules, arith}
use Rattle.aml_marks.specs.Marked.{count_at}
use Rattle.aml_frames.proofs.Targeting.{leads_deref_paid, ends_deref}
use Rattle.aml_targets.proofs.targets.begin_dereferenced.Goals as goal

pub returns-in-Some : goal.returns-in-Some
returns-in-Some g c = record {
  spent = omega arith;
  falls = first_of (search rules, grind arith);
  means = leads_deref_paid c.args.act.now c.take_opcode.new.self c.args.levels c.in-Some.field-0 c.args.target_use c.in_ok-charge.ensures.does (c.take_opcode.ensures.term c.in-Some.field-0 (count_at c.args.act.now.marks) false c.in-Some.is) c.take_opcode.ensures.moves c.requires;
  ends = ends_deref c.args.act.now c.take_opcode.new.self c.args.levels c.in-Some.field-0 c.args.target_use (c.take_opcode.ensures.term c.in-Some.field-0 (count_at c.args.act.now.marks) false c.in-Some.is) c.take_opcode.ensures.moves c.requires;
}
