use Rattle.std.proofs.Common.{◌≡◌, ◌∙◌, ◌++◌, ◌∷◌, [], ap, sym, subst, Some, None}
use Rattle.std.specs.Prelude.{option_and_then}
use Rattle.std.specs.Option.{option_map}
use Rattle.aml_objects.specs.declared.node.NodeId.{NodeId}
use Rattle.aml_namespace.specs.Namespace.{Namespace, numbered}
use Rattle.aml_namespace.specs.Search.{at_path}
use Rattle.aml_namespace.specs.Tree.{child_in, down}
use Rattle.aml_namespace.proofs.Finding.{ids}
use Rattle.aml_namespace.proofs.Climbing.{below_is}
use Rattle.aml_namespace.proofs.NearestScopes.{itself_through}
use Rattle.aml_namespace.proofs.Searching.{none_is}
use Rattle.aml_namespace.proofs.names.Names.child_of.Goals as goal

pub returns-clause-here : goal.returns-clause-here
returns-clause-here c = λ f is.
    let s = c.args.segment in
    subst (λ (n : Namespace). option_map (λ (id : NodeId). numbered id.number n.map) c.child.result ≡ option_map Some (at_path n.map (f.0 ++ s ∷ []))) c.self.view_is
    (below_is c.self.inside.nodes (child_in c.self.inside.index) c.self.inside.next c.self.invariant c.args.id.number f (s ∷ []) c.child.result (ap (λ n. numbered c.args.id.number n.map) c.self.view_is ∙ is)
    (c.child.ensures ∙ sym (itself_through (child_in c.self.inside.index c.args.id.number s))))

pub returns-clause-deeper : goal.returns-clause-deeper
returns-clause-deeper c = λ f is none rest.
    let s = c.args.segment in
    let children = child_in c.self.inside.index in
    let last : children c.args.id.number s ≡ None = sym c.child.ensures ∙ ap ids none in
    let nowhere : None ≡ down children c.args.id.number (s ∷ rest) = sym (ap (option_and_then (λ k. down children k rest)) last) in
    none_is (at_path c.args.self.now.map (f.0 ++ s ∷ rest))
    (subst (λ (n : Namespace). None ≡ option_map Some (at_path n.map (f.0 ++ s ∷ rest))) c.self.view_is
    (below_is c.self.inside.nodes children c.self.inside.next c.self.invariant c.args.id.number f (s ∷ rest) None (ap (λ n. numbered c.args.id.number n.map) c.self.view_is ∙ is) nowhere))
