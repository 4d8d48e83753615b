use Rattle.aml_frames.proofs.ShortNames.{reads_integer, reads_if, refused_if}
use Rattle.aml_frames.proofs.at_once.short_names.read_node.Goals as goal

pub returns-in-Some-clause-read : goal.returns-in-Some-clause-read
returns-in-Some-clause-read g c = reads_integer g.S.Space.accesses c.args.id.number c.args.world.now c.in-Some.number c.in-Some.ensures.used

pub returns-in-Some-node_unit-clause-read : goal.returns-in-Some-node_unit-clause-read
returns-in-Some-node_unit-clause-read g c = reads_if g.S.Space.accesses c.args.id.number c.args.world.now c.unit_integer.new.self c.in-Some-node_unit.unit c.unit_integer.result c.in-Some-node_unit.ensures.used c.unit_integer.ensures.read

pub returns-in-Some-node_unit-clause-refused : goal.returns-in-Some-node_unit-clause-refused
returns-in-Some-node_unit-clause-refused g c = refused_if g.S.Space.accesses c.args.id.number c.args.world.now c.unit_integer.new.self c.in-Some-node_unit.unit c.unit_integer.result c.in-Some-node_unit.ensures.used c.unit_integer.ensures.refused
