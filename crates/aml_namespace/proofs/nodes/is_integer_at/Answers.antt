use Rattle.std.proofs.Common.{sym}
use Rattle.aml_namespace.proofs.nodes.is_integer_at.Goals as goal

pub returns-then-node-id : goal.returns-then-node-id
returns-then-node-id c = λ yes. (c.in-Some.node.now, sym c.in-Some.ensures, c.if-node-id.true, c.is_integer.ensures yes)
