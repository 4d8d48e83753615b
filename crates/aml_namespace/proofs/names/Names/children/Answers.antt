use Rattle.std.proofs.Common.{◌≡◌, ◌∙◌, ap, sym, Some, None, Ok, arith}
use Rattle.aml_namespace.specs.Walks.{children}
use Rattle.aml_namespace.specs.Tree.{child_in, down}
use Rattle.aml_namespace.proofs.Paths.{node_of_root}
use Rattle.aml_namespace.proofs.Growth.{at_most}
use Rattle.aml_namespace.proofs.Children.{children_are, no_children}
use Rattle.aml_namespace.proofs.names.Names.children.Goals as goal

pub children_of-requires : goal.children_of-requires
children_of-requires c =
    let leads : down (child_in c.self.inside.index) 0 c.args.path.now ≡ Some c.in-Some.id.number =
    ap (λ n. down (child_in c.self.inside.index) n c.args.path.now) (sym c.root_id.ensures) ∙ ap (down (child_in c.self.inside.index) c.root_id.result.number) (sym c.segments.ensures) ∙ sym c.in-Some.ensures in
    let low = at_most c.self.inside.nodes (child_in c.self.inside.index) c.self.inside.next c.self.invariant c.in-Some.id.number (node_of_root c.self.inside.nodes (child_in c.self.inside.index) c.self.inside.next c.self.invariant c.args.path.now c.in-Some.id.number leads) in
    omega (arith, low)

pub returns-in-None : goal.returns-in-None
returns-in-None c =
    let nowhere : down (child_in c.self.inside.index) 0 c.args.path.now ≡ None =
    ap (λ n. down (child_in c.self.inside.index) n c.args.path.now) (sym c.root_id.ensures) ∙ ap (down (child_in c.self.inside.index) c.root_id.result.number) (sym c.segments.ensures) ∙ sym c.in-None.ensures in
    record { is = λ _. ap Ok (ap (λ s. children c.args.path.now s.map) (sym c.self.view_is) ∙ sym (no_children c.self.inside.nodes c.self.inside.index c.self.inside.next c.self.invariant c.args.path.now nowhere) ∙ sym c.new.ensures.items) }

pub returns-in-Some : goal.returns-in-Some
returns-in-Some c =
    let leads : down (child_in c.self.inside.index) 0 c.args.path.now ≡ Some c.in-Some.id.number =
    ap (λ n. down (child_in c.self.inside.index) n c.args.path.now) (sym c.root_id.ensures) ∙ ap (down (child_in c.self.inside.index) c.root_id.result.number) (sym c.segments.ensures) ∙ sym c.in-Some.ensures in
    let all = children_are c.self.inside.nodes c.self.inside.index c.self.inside.next c.self.invariant c.children_of.ensures.ordered c.args.path.now c.in-Some.id.number leads ∙ ap (λ s. children c.args.path.now s.map) c.self.view_is in
    record { is = λ ne. ap Ok (sym all) ∙ c.children_of.ensures.children.is ne }
