use Rattle.std.proofs.Common.{rules, arith}
use Rattle.aml_world.specs.declared.values.operation_kind.TwoOperands.TheVariants as two
use Rattle.aml_frames.proofs.ShortItems.{behind_two_stored, items}
use Rattle.aml_frames.proofs.at_once.short_items.binary_to_slot.Goals as goal

pub returns-then-put_integer_to_slot-clause-operator : goal.returns-then-put_integer_to_slot-clause-operator
returns-then-put_integer_to_slot-clause-operator g c = record {
  integer = search (rules, items);
  behind = behind_two_stored c.args.act.now c.operand_integer.new.act c.operand_integer-2.new.act c.put_integer_to_slot.new.act (two.Integers c.args.operator) c.args.levels c.in-Some.ensures.behind c.in-Some-operand_integer.ensures.behind (search rules) (c.put_integer_to_slot.ensures.behind c.if-put_integer_to_slot.true);
  spent = first_of (search rules, grind arith);
  moves = first_of (search rules, grind arith);
}
