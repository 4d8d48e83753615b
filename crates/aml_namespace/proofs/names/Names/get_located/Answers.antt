use Rattle.std.proofs.Common.{◌∙◌}
use Rattle.aml_namespace.proofs.Finding.{get_none, get_some}
use Rattle.aml_namespace.proofs.names.Names.get_located.Goals as goal

pub returns-in-None : goal.returns-in-None
returns-in-None c = get_none c.args.self.now.map c.args.located.now c.in-None.ensures

pub returns-in-Some : goal.returns-in-Some
returns-in-Some c = c.node.ensures ∙ get_some c.args.self.now.map c.args.located.now c.in-Some.id.number c.in-Some.ensures
