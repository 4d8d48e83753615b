use Rattle.std.proofs.Common.{◌∙◌, ap, Some}
use Rattle.aml_namespace.proofs.Finding.{stands_here}
use Rattle.aml_namespace.proofs.names.Names.node_at.Goals as goal

pub returns-then-is_at : goal.returns-then-is_at
returns-then-is_at c = stands_here c.args.self.now.map c.args.located.now c.located.inside.node.number (c.is_at.ensures c.if-is_at.true ∙ ap Some c.segments.ensures ∙ ap Some c.located.view_is)
