use Rattle.aml_objects.specs.declared.value.Value.TheVariants.{Integer}
use Rattle.aml_frames.proofs.ShortNames.{puts_if, put_not_if}
use Rattle.aml_frames.proofs.at_once.short_names.put_node.Goals as goal

pub returns-in-Some-clause-done : goal.returns-in-Some-clause-done
returns-in-Some-clause-done g c = puts_if g.S.Space.accesses c.args.id.number c.args.world.now c.put_unit_integer.new.self _ (c.put_integer_at.ensures.unchanged c.if-put_integer_at.false) c.in-Some.unit (Integer c.args.number) c.in-Some.ensures.written c.put_unit_integer.result c.put_unit_integer.ensures.written

pub returns-in-Some-clause-refused : goal.returns-in-Some-clause-refused
returns-in-Some-clause-refused g c = put_not_if g.S.Space.accesses c.args.id.number c.args.world.now c.put_unit_integer.new.self _ (c.put_integer_at.ensures.unchanged c.if-put_integer_at.false) c.in-Some.unit (Integer c.args.number) c.in-Some.ensures.written c.put_unit_integer.result c.put_unit_integer.ensures.refused
