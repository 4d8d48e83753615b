use Rattle.std.proofs.Common.{sym, refl}
use Rattle.aml_namespace.proofs.Scopes.{equal_segments}
use Rattle.aml_namespace.proofs.nodes.node_in.Goals as goal

pub returns-in-Some : goal.returns-in-Some
returns-in-Some c = (c.in-Some.node.now, sym c.in-Some.ensures, refl, c.if-node-parent.true, equal_segments c.in-Some.node.now.segment c.args.segment c.if-eq.ensures)
