use Rattle.std.proofs.Common.{◌≡◌, ◌∙◌, List, ap, sym, subst, Some, None, Ok, Option, ℕ}
use Rattle.std.specs.Prelude.{option_and_then}
use Rattle.std.specs.FinMap.{get, insert}
use Rattle.aml_path.specs.declared.segment.Seg.{Seg}
use Rattle.aml_namespace.specs.Namespace.{Map, Namespace, with_object}
use Rattle.aml_namespace.specs.Nodes.{NodeMap}
use Rattle.aml_namespace.specs.Tree.{child_in, down, map_of, path_to, Linked}
use Rattle.aml_namespace.proofs.Paths.{there_is, node_of_root, path_of_root, get_map}
use Rattle.aml_namespace.proofs.Growth.{entry_of}
use Rattle.aml_namespace.proofs.Numbering.{entry_at}
use Rattle.aml_namespace.proofs.Changes.{over_linked, over_map, replaced_none, replaced_some}
use Rattle.aml_namespace.proofs.names.Names.replace.Goals as goal

pub returns-in-None-clause-change : goal.returns-in-None-clause-change
returns-in-None-clause-change c =
    let nowhere : down (child_in c.self.inside.index) 0 c.args.path.now ≡ None =
    ap (λ n. down (child_in c.self.inside.index) n c.args.path.now) (sym c.root_id.ensures) ∙ ap (down (child_in c.self.inside.index) c.root_id.result.number) (sym c.segments.ensures) ∙ sym c.in-None.ensures in
    let none : get c.args.self.now.map c.args.path.now ≡ None =
    ap (λ s. get s.map c.args.path.now) (sym c.self.view_is) ∙ get_map c.self.inside.nodes (child_in c.self.inside.index) c.self.inside.next c.self.invariant c.args.path.now
    ∙ ap (λ (o : Option ℕ). entry_of (option_and_then (get c.self.inside.nodes) o)) nowhere in
    record { is = λ _. replaced_none c.args.path.now c.args.object c.args.self.now none }

pub invariant_of-self : goal.invariant_of-self
invariant_of-self c =
    let leads : down (child_in c.self.inside.index) 0 c.args.path.now ≡ Some c.in-Some.id.number =
    ap (λ n. down (child_in c.self.inside.index) n c.args.path.now) (sym c.root_id.ensures) ∙ ap (down (child_in c.self.inside.index) c.root_id.result.number) (sym c.segments.ensures) ∙ sym c.in-Some.ensures in
    let x = there_is (get c.self.inside.nodes c.in-Some.id.number) (node_of_root c.self.inside.nodes (child_in c.self.inside.index) c.self.inside.next c.self.invariant c.args.path.now c.in-Some.id.number leads) in
    subst (λ (m : NodeMap). Linked m (child_in c.self.inside.index) c.self.inside.next) (sym c.replace.ensures) (over_linked c.self.inside.nodes (child_in c.self.inside.index) c.self.inside.next c.self.invariant c.in-Some.id.number x.0 c.args.object x.1)

pub returns-in-Some-clause-change : goal.returns-in-Some-clause-change
returns-in-Some-clause-change c =
    let leads : down (child_in c.self.inside.index) 0 c.args.path.now ≡ Some c.in-Some.id.number =
    ap (λ n. down (child_in c.self.inside.index) n c.args.path.now) (sym c.root_id.ensures) ∙ ap (down (child_in c.self.inside.index) c.root_id.result.number) (sym c.segments.ensures) ∙ sym c.in-Some.ensures in
    let x = there_is (get c.self.inside.nodes c.in-Some.id.number) (node_of_root c.self.inside.nodes (child_in c.self.inside.index) c.self.inside.next c.self.invariant c.args.path.now c.in-Some.id.number leads) in
    let way : path_to c.self.inside.nodes c.in-Some.id.number ≡ c.args.path.now = path_of_root c.self.inside.nodes (child_in c.self.inside.index) c.self.inside.next c.self.invariant c.args.path.now c.in-Some.id.number leads in
    let at : get c.args.self.now.map c.args.path.now ≡ Some x.0.entry =
    ap (λ s. get s.map c.args.path.now) (sym c.self.view_is) ∙ ap (get (map_of c.self.inside.nodes)) (sym way) ∙ entry_at c.self.inside.nodes (child_in c.self.inside.index) c.self.inside.next c.self.invariant c.in-Some.id.number x.0 x.1 in
    let maps : map_of c.replace.new.self ≡ insert (map_of c.self.inside.nodes) c.args.path.now (with_object c.args.object x.0.entry) =
    ap map_of c.replace.ensures ∙ over_map c.self.inside.nodes (child_in c.self.inside.index) c.self.inside.next c.self.invariant c.in-Some.id.number x.0 c.args.object x.1 ∙ ap (λ (p : List Seg). insert (map_of c.self.inside.nodes) p (with_object c.args.object x.0.entry)) way in
    record {
      is = λ _.
          replaced_some c.args.path.now c.args.object c.args.self.now x.0.entry at
          ∙ ap (λ (s : Namespace). (Ok tt, record s { map = insert s.map c.args.path.now (with_object c.args.object x.0.entry) })) (sym c.self.view_is)
          ∙ ap (λ (m : Map). (Ok tt, record { map = m; next = c.self.inside.next })) (sym maps);
    }
