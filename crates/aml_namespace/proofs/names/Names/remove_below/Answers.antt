use Rattle.std.proofs.Common.{◌≡◌, ◌∙◌, List, ap, sym, subst, Some, None, not}
use Rattle.std.specs.FinMap.{retain_keys}
use Rattle.aml_path.specs.declared.segment.Seg.{Seg}
use Rattle.aml_path.specs.Paths.{is_below}
use Rattle.aml_namespace.specs.Namespace.{Map, Namespace, HasBelow, without_below}
use Rattle.aml_namespace.specs.Nodes.{NodeMap}
use Rattle.aml_namespace.specs.Tree.{child_in, down, map_of}
use Rattle.aml_namespace.proofs.Paths.{node_of_root, path_of_root}
use Rattle.aml_namespace.proofs.Cutting.{nothing_below}
use Rattle.aml_namespace.proofs.names.Names.remove_below.Goals as goal

pub cut_below-requires-clause-stands : goal.cut_below-requires-clause-stands
cut_below-requires-clause-stands c =
    let leads : down (child_in c.self.inside.index) 0 c.args.path.now ≡ Some c.in-Some.start.number =
    ap (λ n. down (child_in c.self.inside.index) n c.args.path.now) (sym c.root_id.ensures) ∙ ap (down (child_in c.self.inside.index) c.root_id.result.number) (sym c.segments.ensures) ∙ sym c.in-Some.ensures in
    node_of_root c.self.inside.nodes (child_in c.self.inside.index) c.self.inside.next c.self.invariant c.args.path.now c.in-Some.start.number leads

pub returns-in-Some-clause-left : goal.returns-in-Some-clause-left
unfolding without_below
returns-in-Some-clause-left c =
    let leads : down (child_in c.self.inside.index) 0 c.args.path.now ≡ Some c.in-Some.start.number =
    ap (λ n. down (child_in c.self.inside.index) n c.args.path.now) (sym c.root_id.ensures) ∙ ap (down (child_in c.self.inside.index) c.root_id.result.number) (sym c.segments.ensures) ∙ sym c.in-Some.ensures in
    ap (λ (m : Map). record { map = m; next = c.self.inside.next })
    (c.cut_below.ensures.left ∙ ap (λ (p : List Seg). retain_keys (map_of c.self.inside.nodes) (λ q. not (is_below p q))) (path_of_root c.self.inside.nodes (child_in c.self.inside.index) c.self.inside.next c.self.invariant c.args.path.now c.in-Some.start.number leads))
    ∙ ap (without_below c.args.path.now) c.self.view_is

pub returns-in-Some-clause-kept : goal.returns-in-Some-clause-kept
returns-in-Some-clause-kept c = λ no. ap (λ (m : NodeMap). record { map = map_of m; next = c.self.inside.next }) (c.cut_below.ensures.kept no) ∙ c.self.view_is

pub returns-in-Some-clause-removed : goal.returns-in-Some-clause-removed
returns-in-Some-clause-removed c = λ yes.
    let leads : down (child_in c.self.inside.index) 0 c.args.path.now ≡ Some c.in-Some.start.number =
    ap (λ n. down (child_in c.self.inside.index) n c.args.path.now) (sym c.root_id.ensures) ∙ ap (down (child_in c.self.inside.index) c.root_id.result.number) (sym c.segments.ensures) ∙ sym c.in-Some.ensures in
    subst (λ (s : Namespace). HasBelow c.args.path.now s.map) c.self.view_is
    (subst (λ (p : List Seg). HasBelow p (map_of c.self.inside.nodes)) (path_of_root c.self.inside.nodes (child_in c.self.inside.index) c.self.inside.next c.self.invariant c.args.path.now c.in-Some.start.number leads) (c.cut_below.ensures.removed yes))

pub returns-in-None-clause-left : goal.returns-in-None-clause-left
unfolding without_below
returns-in-None-clause-left c =
    let nowhere : down (child_in c.self.inside.index) 0 c.args.path.now ≡ None =
    ap (λ n. down (child_in c.self.inside.index) n c.args.path.now) (sym c.root_id.ensures) ∙ ap (down (child_in c.self.inside.index) c.root_id.result.number) (sym c.segments.ensures) ∙ sym c.in-None.ensures in
    sym c.self.view_is
    ∙ ap (λ (m : Map). record { map = m; next = c.self.inside.next }) (nothing_below c.self.inside.nodes (child_in c.self.inside.index) c.self.inside.next c.self.invariant c.args.path.now nowhere)
    ∙ ap (without_below c.args.path.now) c.self.view_is
