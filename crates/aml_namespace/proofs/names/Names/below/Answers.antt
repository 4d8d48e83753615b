use Rattle.std.proofs.Common.{◌≡◌, ◌∙◌, ◌++◌, ap, subst, Some}
use Rattle.std.specs.Option.{option_map}
use Rattle.aml_objects.specs.declared.node.NodeId.{NodeId}
use Rattle.aml_namespace.specs.Namespace.{Namespace, numbered}
use Rattle.aml_namespace.specs.Search.{at_path}
use Rattle.aml_namespace.specs.Tree.{child_in}
use Rattle.aml_namespace.proofs.Climbing.{below_is}
use Rattle.aml_namespace.proofs.names.Names.below.Goals as goal

pub returns : goal.returns
returns c = λ f is.
    subst (λ (s : Namespace). option_map (λ (id : NodeId). numbered id.number s.map) c.descend.result ≡ option_map Some (at_path s.map (f.0 ++ c.args.segments.now))) c.self.view_is
    (below_is c.self.inside.nodes (child_in c.self.inside.index) c.self.inside.next c.self.invariant c.args.id.number f c.args.segments.now c.descend.result (ap (λ s. numbered c.args.id.number s.map) c.self.view_is ∙ is) c.descend.ensures)
