use Rattle.std.proofs.Common.{◌∙◌, ap, Some}
use Rattle.std.specs.Option.{option_map}
use Rattle.aml_namespace.specs.Search.{at_path}
use Rattle.aml_namespace.proofs.Finding.{get_none, get_some}
use Rattle.aml_namespace.proofs.names.Names.get.Goals as goal

pub returns-in-None : goal.returns-in-None
returns-in-None c = get_none c.args.self.now.map c.args.path.now (c.in-None.ensures ∙ ap (λ q. option_map Some (at_path c.args.self.now.map q)) c.segments.ensures)

pub returns-in-Some : goal.returns-in-Some
returns-in-Some c =
    c.node.ensures
    ∙ get_some c.args.self.now.map c.args.path.now c.in-Some.id.number (c.in-Some.ensures ∙ ap (λ q. option_map Some (at_path c.args.self.now.map q)) c.segments.ensures)
