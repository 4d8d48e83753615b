use Rattle.std.proofs.Common.{◌∙◌, ap, sym, subst, Ok}
use Rattle.aml_namespace.specs.Namespace.{Namespace, replaced, numbered}
use Rattle.aml_namespace.specs.Nodes.{NodeMap}
use Rattle.aml_namespace.specs.Tree.{child_in, map_of, Linked}
use Rattle.aml_namespace.proofs.Placing.{put_linked, put_replaced, put_unchanged}
use Rattle.aml_namespace.proofs.names.Names.replace_node.Goals as goal

pub invariant_of-self : goal.invariant_of-self
invariant_of-self c =
    subst (λ (m : NodeMap). Linked m (child_in c.self.inside.index) c.self.inside.next) (sym c.replace.ensures)
    (put_linked c.self.inside.nodes (child_in c.self.inside.index) c.self.inside.next c.self.invariant c.args.id.number c.args.object)

pub returns-clause-change : goal.returns-clause-change
returns-clause-change c = λ f is.
    ap (replaced f.0 c.args.object) (sym c.self.view_is)
    ∙ put_replaced c.self.inside.nodes (child_in c.self.inside.index) c.self.inside.next c.self.invariant c.args.id.number c.args.object f (ap (λ (s : Namespace). numbered c.args.id.number s.map) c.self.view_is ∙ is)
    ∙ ap (λ (m : NodeMap). (Ok tt, record { map = map_of m; next = c.self.inside.next })) (sym c.replace.ensures)

pub returns-clause-unchanged : goal.returns-clause-unchanged
returns-clause-unchanged c = λ none.
    ap (λ (m : NodeMap). record { map = map_of m; next = c.self.inside.next })
    (c.replace.ensures ∙ put_unchanged c.self.inside.nodes (child_in c.self.inside.index) c.self.inside.next c.self.invariant c.args.id.number c.args.object (ap (λ (s : Namespace). numbered c.args.id.number s.map) c.self.view_is ∙ none))
    ∙ c.self.view_is
