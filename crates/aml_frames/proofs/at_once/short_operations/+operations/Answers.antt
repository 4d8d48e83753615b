use Rattle.std.proofs.Common.{rules, arith}
use Rattle.aml_objects.specs.declared.value.Value.TheVariants as values
use Rattle.aml_meaning.specs.declared.flow.Flow.TheVariants as flows
use Rattle.aml_world.specs.declared.values.operation_kind.TwoOperands.TheVariants as two
use Rattle.aml_frames.proofs.ShortOperations.{behind_known, done_leads, integers}
use Rattle.aml_frames.proofs.ShortOperators.{begun_by_operator, behind_by_operator}
use Rattle.aml_frames.proofs.at_once.short_operations.+operations.Goals as goal

pub operation_integer-returns : goal.operation_integer-returns
operation_integer-returns g t c = record {
  integer = done_leads (flows.Value (values.Integer _)) _ (begun_by_operator c.args.act.now c.take_operator.new.act c.args.levels c.in-Some.kind c.in-Some.ensures.kind c.in-Some.ensures.deep c.in-Some.ensures.taken c.in-Some.ensures.moves c.in-Some-operator_integer.ensures.operator.integer);
  behind = behind_by_operator _ c.args.act.now c.take_operator.new.act c.args.levels c.in-Some.kind c.in-Some.ensures.kind c.in-Some.ensures.deep c.in-Some.ensures.moves c.in-Some-operator_integer.ensures.operator.behind;
  kept = first_of (search rules, grind arith);
  paid = first_of (search rules, grind arith);
  none = first_of (search rules, grind arith);
  stays = first_of (search rules, grind arith);
}

pub binary_without_target-returns-clause-operator : goal.binary_without_target-returns-clause-operator
binary_without_target-returns-clause-operator g t c = record {
  integer = search (rules, integers);
  behind = behind_known c.args.act.now c.operand_integer.new.act c.operand_integer-2.new.act c.advance.new.self (two.Integers c.args.operator) c.args.levels c.in-Some.ensures.behind c.in-Some-operand_integer.ensures.behind (search rules) c.advance.ensures;
  spent = first_of (search rules, grind arith);
  moves = first_of (search rules, grind arith);
}
