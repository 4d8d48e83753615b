use Rattle.std.proofs.Common.{◌∙◌, ◌<◌, ap, sym, subst, arith}
use Rattle.aml_namespace.specs.Namespace.{Namespace, numbered}
use Rattle.aml_namespace.specs.Search.{IsParent}
use Rattle.aml_namespace.specs.Tree.{child_in}
use Rattle.aml_namespace.proofs.Climbing.{above_root, above_none, above_some}
use Rattle.aml_namespace.proofs.names.Names.above.Goals as goal

pub returns-in-None-clause-parent : goal.returns-in-None-clause-parent
returns-in-None-clause-parent c = λ f is. absurd (above_none c.self.inside.nodes (child_in c.self.inside.index) c.self.inside.next c.self.invariant c.args.id.number f (sym c.in-None.ensures) (ap (λ s. numbered c.args.id.number s.map) c.self.view_is ∙ is))

pub returns-then-id-eq0-clause-parent : goal.returns-then-id-eq0-clause-parent
returns-then-id-eq0-clause-parent c = λ f is. above_root c.self.inside.nodes (child_in c.self.inside.index) c.self.inside.next c.self.invariant f (ap (λ s. numbered 0 s.map) c.self.view_is ∙ ap (λ n. numbered n c.args.self.now.map) (sym c.if-id-eq0.true) ∙ is)

pub returns-in-Some-clause-parent : goal.returns-in-Some-clause-parent
returns-in-Some-clause-parent c = λ f is.
    let some : 0 < c.args.id.number = omega (arith, c.if-id-eq0.false) in
    subst (λ (s : Namespace). IsParent s.map f.0 c.in-Some.node.now.parent.number c.in-Some.node.now.segment) c.self.view_is
    (above_some c.self.inside.nodes (child_in c.self.inside.index) c.self.inside.next c.self.invariant c.args.id.number c.in-Some.node.now f (sym c.in-Some.ensures) some (ap (λ s. numbered c.args.id.number s.map) c.self.view_is ∙ is))
