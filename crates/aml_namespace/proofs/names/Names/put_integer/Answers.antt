use Rattle.std.proofs.Common.{◌∙◌, ap, sym, Ok}
use Rattle.aml_objects.specs.declared.entry.NamedObject.TheVariants.{Data}
use Rattle.aml_objects.specs.declared.value.Value.TheVariants.{Integer}
use Rattle.aml_namespace.specs.Namespace.{Namespace, replaced, numbered}
use Rattle.aml_namespace.specs.Search.{Found}
use Rattle.aml_namespace.specs.Nodes.{NodeMap}
use Rattle.aml_namespace.specs.Tree.{child_in, map_of}
use Rattle.aml_namespace.proofs.Climbing.{node_of}
use Rattle.aml_namespace.proofs.Placing.{maybe_linked, nothing_at, put_replaced}
use Rattle.aml_namespace.proofs.names.Names.put_integer.Goals as goal

pub invariant_of-self : goal.invariant_of-self
invariant_of-self c =
    maybe_linked c.self.inside.nodes (child_in c.self.inside.index) c.self.inside.next c.self.invariant c.args.id.number (Data (Integer c.args.number)) c.put_integer.result c.put_integer.new.self c.put_integer.ensures.put c.put_integer.ensures.unchanged

pub returns-clause-change : goal.returns-clause-change
returns-clause-change c = λ yes f is.
    ap (replaced f.0 (Data (Integer c.args.number))) (sym c.self.view_is)
    ∙ put_replaced c.self.inside.nodes (child_in c.self.inside.index) c.self.inside.next c.self.invariant c.args.id.number (Data (Integer c.args.number)) f (ap (λ (s : Namespace). numbered c.args.id.number s.map) c.self.view_is ∙ is)
    ∙ ap (λ (m : NodeMap). (Ok tt, record { map = map_of m; next = c.self.inside.next })) (sym (c.put_integer.ensures.put yes))

pub returns-clause-held : goal.returns-clause-held
returns-clause-held c = λ yes f is.
    let x = node_of c.self.inside.nodes (child_in c.self.inside.index) c.self.inside.next c.self.invariant c.args.id.number f (ap (λ (s : Namespace). numbered c.args.id.number s.map) c.self.view_is ∙ is) in
    let n = c.put_integer.ensures.held yes x.0 x.1 in
    (n.0, ap (λ (g : Found). g.1.object) x.2 ∙ n.1)

pub returns-clause-gone : goal.returns-clause-gone
returns-clause-gone c = λ none.
    c.put_integer.ensures.gone (nothing_at c.self.inside.nodes (child_in c.self.inside.index) c.self.inside.next c.self.invariant c.args.id.number (ap (λ (s : Namespace). numbered c.args.id.number s.map) c.self.view_is ∙ none))

pub returns-clause-unchanged : goal.returns-clause-unchanged
returns-clause-unchanged c = λ no. ap (λ (m : NodeMap). record { map = map_of m; next = c.self.inside.next }) (c.put_integer.ensures.unchanged no) ∙ c.self.view_is
