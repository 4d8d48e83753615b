use Rattle.std.proofs.Common.{false, ap, ◌∙◌, rules, arith}
use Rattle.aml_marks.specs.Marked.{count_at}
use Rattle.aml_frames.specs.Uses.{target_ends}
use Rattle.aml_frames.proofs.Targeting.{leads_ref_paid, ends_ref_of}
use Rattle.aml_targets.proofs.targets.begin_operand_target.Goals as goal

pub returns-in-Some-clause-steps : goal.returns-in-Some-clause-steps
returns-in-Some-clause-steps g c = record {
  spent = omega arith;
  falls = first_of (search rules, grind arith);
  means = rw c.super_name.ensures (leads_ref_paid c.args.act.now c.take_opcode.new.self c.args.levels c.in-Some.field-0 c.args.target_use c.in_ok-charge.ensures.does (c.take_opcode.ensures.term c.in-Some.field-0 (count_at c.args.act.now.marks) false c.in-Some.is) c.take_opcode.ensures.moves c.requires);
  ends =
      ap (λ t. target_ends t c.args.target_use c.take_opcode.new.self) c.super_name.ensures
      ∙ ends_ref_of c.args.act.now c.take_opcode.new.self c.args.levels c.in-Some.field-0 c.args.target_use (c.take_opcode.ensures.term c.in-Some.field-0 (count_at c.args.act.now.marks) false c.in-Some.is) c.take_opcode.ensures.moves c.requires;
}
