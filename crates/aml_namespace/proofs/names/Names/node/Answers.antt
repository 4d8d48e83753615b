use Rattle.std.proofs.Common.{◌∙◌, ap, sym}
use Rattle.std.specs.Option.{option_map}
use Rattle.aml_namespace.specs.Namespace.{numbered}
use Rattle.aml_namespace.specs.Search.{Found}
use Rattle.aml_namespace.specs.Tree.{child_in}
use Rattle.aml_namespace.proofs.Finding.{node_none, node_some}
use Rattle.aml_namespace.proofs.names.Names.node.Goals as goal

pub returns-in-None : goal.returns-in-None
returns-in-None c =
    node_none c.self.inside.nodes (child_in c.self.inside.index) c.self.inside.next c.self.invariant c.args.id.number (sym c.in-None.ensures)
    ∙ ap (λ s. option_map (λ (f : Found). f.1) (numbered c.args.id.number s.map)) c.self.view_is

pub returns-in-Some : goal.returns-in-Some
returns-in-Some c =
    node_some c.self.inside.nodes (child_in c.self.inside.index) c.self.inside.next c.self.invariant c.args.id.number c.in-Some.node.now (sym c.in-Some.ensures)
    ∙ ap (λ s. option_map (λ (f : Found). f.1) (numbered c.args.id.number s.map)) c.self.view_is
