use Rattle.std.proofs.Common.{◌≡◌, ◌++◌, ◌∙◌, ap, sym, subst, Some}
use Rattle.std.specs.Option.{option_map}
use Rattle.aml_objects.specs.declared.node.NodeId.{NodeId}
use Rattle.aml_namespace.specs.Namespace.{Namespace, numbered}
use Rattle.aml_namespace.specs.Search.{at_path}
use Rattle.aml_namespace.specs.Tree.{child_in, down}
use Rattle.aml_namespace.proofs.Finding.{at_none, at_some}
use Rattle.aml_namespace.proofs.names.Names.at.Goals as goal

pub returns-in-None : goal.returns-in-None
returns-in-None c =
    at_none c.self.inside.nodes (child_in c.self.inside.index) c.self.inside.next c.self.invariant c.args.front.now c.args.back.now
    (ap (λ n. down (child_in c.self.inside.index) n c.args.front.now) (sym c.root_id.ensures) ∙ sym c.in-None.ensures)
    ∙ ap (λ s. option_map Some (at_path s.map (c.args.front.now ++ c.args.back.now))) c.self.view_is

pub returns-in-Some : goal.returns-in-Some
returns-in-Some c =
    let P = λ (s : Namespace). option_map (λ (id : NodeId). numbered id.number s.map) c.descend-in-Some.result ≡ option_map Some (at_path s.map (c.args.front.now ++ c.args.back.now)) in
    subst P c.self.view_is
    (at_some c.self.inside.nodes (child_in c.self.inside.index) c.self.inside.next c.self.invariant c.args.front.now c.args.back.now c.in-Some.scope.number c.descend-in-Some.result
    (ap (λ n. down (child_in c.self.inside.index) n c.args.front.now) (sym c.root_id.ensures) ∙ sym c.in-Some.ensures) c.descend-in-Some.ensures)
