use Rattle.std.proofs.Common.{IsErr, ℕ, ◌≡◌, ◌+◌, ◌++◌, ◌∷◌, ◌∙◌, [], List, ap, sym, subst, refl, true, false, is_some, Option, Some, None, Ok, length, arith}
use Rattle.ar_space.specs.Outcome.{Outcome}
use Rattle.std.specs.Option.{option_map}
use Rattle.aml_objects.specs.declared.node.NodeId.{NodeId}
use Rattle.std.proofs.lemmas.Bool.{eq-eqb, ne_eqb}
use Rattle.std.specs.FinMap.{get, insert}
use Rattle.aml_path.specs.declared.segment.Seg.{Seg}
use Rattle.aml_objects.specs.declared.entry.Entry.{Entry}
use Rattle.aml_namespace.specs.declared.node.Node.{Node}
use Rattle.aml_namespace.specs.Namespace.{Map, Namespace, above}
use Rattle.aml_namespace.specs.Nodes.{NodeMap}
use Rattle.aml_namespace.specs.Tree.{child_in, down, path_to, map_of, Linked}
use Rattle.aml_namespace.proofs.Paths.{path_of_root, node_of_root}
use Rattle.aml_namespace.proofs.Growth.{none_next, grown_linked, grown_map}
use Rattle.aml_namespace.proofs.Declaring.{above_is, contains, contains_child, declared_nowhere, declared_twice, declared_past, declared_new}
use Rattle.aml_namespace.proofs.names.Names.insert.Goals as goal

none_of : {A : Type 0} (o : Option A) → is_some o ≡ false → o ≡ None
none_of None is = refl
none_of (Some x) is = absurd (cc is)

some_ids : (o : Option NodeId) → is_some (option_map (λ (id : NodeId). id.number) o) ≡ is_some o
some_ids None = refl
some_ids (Some id) = refl

no_segment : (l : List Seg) → length l ≡ 0 → l ≡ []
no_segment [] e = refl
no_segment (s ∷ ss) e = absurd (omega (arith, e))

pub returns-in_default-clause-change : goal.returns-in_default-clause-change
returns-in_default-clause-change c =
    let root : c.args.path ≡ [] = sym c.segments.ensures ∙ no_segment c.segments.result.now c.in_default.ensures.cases in
    let stands : is_some (get c.args.self.now.map []) ≡ true = ap (λ s. is_some (get s.map [])) (sym c.self.view_is) ∙ contains c.self.inside.nodes (child_in c.self.inside.index) c.self.inside.next c.self.invariant [] in
    let parent : is_some (get c.args.self.now.map (above c.args.path)) ≡ true = ap (λ q. is_some (get c.args.self.now.map (above q))) root ∙ stands in
    let there : is_some (get c.args.self.now.map c.args.path) ≡ true = ap (λ q. is_some (get c.args.self.now.map q)) root ∙ stands in
    record { is = λ _. declared_twice c.args.path c.args.object c.args.self.now parent there }

pub returns-in_default-descend-clause-change : goal.returns-in_default-descend-clause-change
returns-in_default-descend-clause-change c =
    let path : c.args.path ≡ c.in-Some.above.now ++ c.in-Some.segment.now ∷ [] = sym c.segments.ensures ∙ c.in-Some.ensures.cases.0 in
    let front : above c.args.path ≡ c.in-Some.above.now = ap above path ∙ above_is c.in-Some.above.now c.in-Some.segment.now in
    let none : is_some (get c.args.self.now.map (above c.args.path)) ≡ false =
    ap (λ s. is_some (get s.map (above c.args.path))) (sym c.self.view_is) ∙ ap (λ q. is_some (get (map_of c.self.inside.nodes) q)) front
    ∙ contains c.self.inside.nodes (child_in c.self.inside.index) c.self.inside.next c.self.invariant c.in-Some.above.now
    ∙ ap is_some (ap (λ n. down (child_in c.self.inside.index) n c.in-Some.above.now) (sym c.root_id.ensures) ∙ sym c.in_default-descend.ensures) in
    record { is = λ _. declared_nowhere c.args.path c.args.object c.args.self.now none }

pub returns-then-is_some-clause-change : goal.returns-then-is_some-clause-change
returns-then-is_some-clause-change c =
    let path : c.args.path ≡ c.in-Some.above.now ++ c.in-Some.segment.now ∷ [] = sym c.segments.ensures ∙ c.in-Some.ensures.cases.0 in
    let front : above c.args.path ≡ c.in-Some.above.now = ap above path ∙ above_is c.in-Some.above.now c.in-Some.segment.now in
    let leads : down (child_in c.self.inside.index) 0 c.in-Some.above.now ≡ Some c.in-Some-descend.parent.number =
    ap (λ n. down (child_in c.self.inside.index) n c.in-Some.above.now) (sym c.root_id.ensures) ∙ sym c.in-Some-descend.ensures in
    let parent : is_some (get c.args.self.now.map (above c.args.path)) ≡ true =
    ap (λ s. is_some (get s.map (above c.args.path))) (sym c.self.view_is) ∙ ap (λ q. is_some (get (map_of c.self.inside.nodes) q)) front
    ∙ contains c.self.inside.nodes (child_in c.self.inside.index) c.self.inside.next c.self.invariant c.in-Some.above.now ∙ ap is_some leads in
    let there : is_some (get c.args.self.now.map c.args.path) ≡ is_some (child_in c.self.inside.index c.in-Some-descend.parent.number c.in-Some.segment.now) =
    ap (λ s. is_some (get s.map c.args.path)) (sym c.self.view_is) ∙ ap (λ q. is_some (get (map_of c.self.inside.nodes) q)) path
    ∙ contains_child c.self.inside.nodes (child_in c.self.inside.index) c.self.inside.next c.self.invariant c.in-Some.above.now c.in-Some.segment.now c.in-Some-descend.parent.number leads in
    record { is = λ _. declared_twice c.args.path c.args.object c.args.self.now parent (there ∙ sym (ap is_some c.child.ensures) ∙ some_ids c.child.result ∙ sym c.is_some.ensures ∙ c.if-is_some.true) }

pub returns-then-number-clause-change : goal.returns-then-number-clause-change
returns-then-number-clause-change c =
    let path : c.args.path ≡ c.in-Some.above.now ++ c.in-Some.segment.now ∷ [] = sym c.segments.ensures ∙ c.in-Some.ensures.cases.0 in
    let front : above c.args.path ≡ c.in-Some.above.now = ap above path ∙ above_is c.in-Some.above.now c.in-Some.segment.now in
    let leads : down (child_in c.self.inside.index) 0 c.in-Some.above.now ≡ Some c.in-Some-descend.parent.number =
    ap (λ n. down (child_in c.self.inside.index) n c.in-Some.above.now) (sym c.root_id.ensures) ∙ sym c.in-Some-descend.ensures in
    let parent : is_some (get c.args.self.now.map (above c.args.path)) ≡ true =
    ap (λ s. is_some (get s.map (above c.args.path))) (sym c.self.view_is) ∙ ap (λ q. is_some (get (map_of c.self.inside.nodes) q)) front
    ∙ contains c.self.inside.nodes (child_in c.self.inside.index) c.self.inside.next c.self.invariant c.in-Some.above.now ∙ ap is_some leads in
    let there : is_some (get c.args.self.now.map c.args.path) ≡ is_some (child_in c.self.inside.index c.in-Some-descend.parent.number c.in-Some.segment.now) =
    ap (λ s. is_some (get s.map c.args.path)) (sym c.self.view_is) ∙ ap (λ q. is_some (get (map_of c.self.inside.nodes) q)) path
    ∙ contains_child c.self.inside.nodes (child_in c.self.inside.index) c.self.inside.next c.self.invariant c.in-Some.above.now c.in-Some.segment.now c.in-Some-descend.parent.number leads in
    record { is = λ _. declared_past c.args.path c.args.object c.args.self.now parent (there ∙ sym (ap is_some c.child.ensures) ∙ some_ids c.child.result ∙ sym c.is_some.ensures ∙ c.if-is_some.false) (eq-eqb _ _ (sym (ap (λ s. s.next) c.self.view_is) ∙ c.if-number.true)) }

pub put-requires-clause-new : goal.put-requires-clause-new
put-requires-clause-new c = none_next c.self.inside.nodes (child_in c.self.inside.index) c.self.inside.next c.self.invariant

pub invariant_of-self-2 : goal.invariant_of-self-2
invariant_of-self-2 c =
    let leads : down (child_in c.self.inside.index) 0 c.in-Some.above.now ≡ Some c.in-Some-descend.parent.number =
    ap (λ n. down (child_in c.self.inside.index) n c.in-Some.above.now) (sym c.root_id.ensures) ∙ sym c.in-Some-descend.ensures in
    let x : Node = record { segment = c.in-Some.segment.now; parent = c.in-Some-descend.parent; entry = record { number = c.self.inside.next; object = c.args.object } } in
    let stands : is_some (get c.self.inside.nodes c.in-Some-descend.parent.number) ≡ true = node_of_root c.self.inside.nodes (child_in c.self.inside.index) c.self.inside.next c.self.invariant c.in-Some.above.now c.in-Some-descend.parent.number leads in
    let vacant : child_in c.self.inside.index c.in-Some-descend.parent.number c.in-Some.segment.now ≡ None = none_of _ (sym (ap is_some c.child.ensures) ∙ some_ids c.child.result ∙ sym c.is_some.ensures ∙ c.if-is_some.false) in
    subst (λ (m : NodeMap). Linked m (child_in c.put.new.index) (c.self.inside.next + 1)) (sym c.in_ok-put.ensures.nodes)
    (grown_linked c.self.inside.nodes (child_in c.self.inside.index) c.self.inside.next c.self.invariant x (child_in c.put.new.index) stands vacant refl c.in_ok-put.ensures.children)

pub returns-in_err-put-clause-memory : goal.returns-in_err-put-clause-memory
returns-in_err-put-clause-memory c = λ err.
    let path : c.args.path ≡ c.in-Some.above.now ++ c.in-Some.segment.now ∷ [] = sym c.segments.ensures ∙ c.in-Some.ensures.cases.0 in
    let front : above c.args.path ≡ c.in-Some.above.now = ap above path ∙ above_is c.in-Some.above.now c.in-Some.segment.now in
    let leads : down (child_in c.self.inside.index) 0 c.in-Some.above.now ≡ Some c.in-Some-descend.parent.number =
    ap (λ n. down (child_in c.self.inside.index) n c.in-Some.above.now) (sym c.root_id.ensures) ∙ sym c.in-Some-descend.ensures in
    let parent : is_some (get c.args.self.now.map (above c.args.path)) ≡ true =
    ap (λ s. is_some (get s.map (above c.args.path))) (sym c.self.view_is) ∙ ap (λ q. is_some (get (map_of c.self.inside.nodes) q)) front
    ∙ contains c.self.inside.nodes (child_in c.self.inside.index) c.self.inside.next c.self.invariant c.in-Some.above.now ∙ ap is_some leads in
    let there : is_some (get c.args.self.now.map c.args.path) ≡ is_some (child_in c.self.inside.index c.in-Some-descend.parent.number c.in-Some.segment.now) =
    ap (λ s. is_some (get s.map c.args.path)) (sym c.self.view_is) ∙ ap (λ q. is_some (get (map_of c.self.inside.nodes) q)) path
    ∙ contains_child c.self.inside.nodes (child_in c.self.inside.index) c.self.inside.next c.self.invariant c.in-Some.above.now c.in-Some.segment.now c.in-Some-descend.parent.number leads in
    let vacant : child_in c.self.inside.index c.in-Some-descend.parent.number c.in-Some.segment.now ≡ None = none_of _ (sym (ap is_some c.child.ensures) ∙ some_ids c.child.result ∙ sym c.is_some.ensures ∙ c.if-is_some.false) in
    let is = declared_new c.args.path c.args.object c.args.self.now parent (there ∙ ap is_some vacant) (ne_eqb _ _ (λ same. c.if-number.false (ap (λ s. s.next) c.self.view_is ∙ same))) in
    absurd (cc (subst (λ (x : Outcome ℕ × Namespace). IsErr x.0) is err))

pub returns-clause-change : goal.returns-clause-change
returns-clause-change c =
    let path : c.args.path ≡ c.in-Some.above.now ++ c.in-Some.segment.now ∷ [] = sym c.segments.ensures ∙ c.in-Some.ensures.cases.0 in
    let front : above c.args.path ≡ c.in-Some.above.now = ap above path ∙ above_is c.in-Some.above.now c.in-Some.segment.now in
    let leads : down (child_in c.self.inside.index) 0 c.in-Some.above.now ≡ Some c.in-Some-descend.parent.number =
    ap (λ n. down (child_in c.self.inside.index) n c.in-Some.above.now) (sym c.root_id.ensures) ∙ sym c.in-Some-descend.ensures in
    let parent : is_some (get c.args.self.now.map (above c.args.path)) ≡ true =
    ap (λ s. is_some (get s.map (above c.args.path))) (sym c.self.view_is) ∙ ap (λ q. is_some (get (map_of c.self.inside.nodes) q)) front
    ∙ contains c.self.inside.nodes (child_in c.self.inside.index) c.self.inside.next c.self.invariant c.in-Some.above.now ∙ ap is_some leads in
    let there : is_some (get c.args.self.now.map c.args.path) ≡ is_some (child_in c.self.inside.index c.in-Some-descend.parent.number c.in-Some.segment.now) =
    ap (λ s. is_some (get s.map c.args.path)) (sym c.self.view_is) ∙ ap (λ q. is_some (get (map_of c.self.inside.nodes) q)) path
    ∙ contains_child c.self.inside.nodes (child_in c.self.inside.index) c.self.inside.next c.self.invariant c.in-Some.above.now c.in-Some.segment.now c.in-Some-descend.parent.number leads in
    let x : Node = record { segment = c.in-Some.segment.now; parent = c.in-Some-descend.parent; entry = record { number = c.self.inside.next; object = c.args.object } } in
    let stands : is_some (get c.self.inside.nodes c.in-Some-descend.parent.number) ≡ true = node_of_root c.self.inside.nodes (child_in c.self.inside.index) c.self.inside.next c.self.invariant c.in-Some.above.now c.in-Some-descend.parent.number leads in
    let vacant : child_in c.self.inside.index c.in-Some-descend.parent.number c.in-Some.segment.now ≡ None = none_of _ (sym (ap is_some c.child.ensures) ∙ some_ids c.child.result ∙ sym c.is_some.ensures ∙ c.if-is_some.false) in
    let e : Entry = record { number = c.self.inside.next; object = c.args.object } in
    let way : path_to c.self.inside.nodes c.in-Some-descend.parent.number ++ c.in-Some.segment.now ∷ [] ≡ c.args.path =
    ap (λ (l : List Seg). l ++ c.in-Some.segment.now ∷ []) (path_of_root c.self.inside.nodes (child_in c.self.inside.index) c.self.inside.next c.self.invariant c.in-Some.above.now c.in-Some-descend.parent.number leads) ∙ sym path in
    let maps : map_of c.put.new.nodes ≡ insert (map_of c.self.inside.nodes) c.args.path e =
    ap map_of c.in_ok-put.ensures.nodes ∙ grown_map c.self.inside.nodes (child_in c.self.inside.index) c.self.inside.next c.self.invariant x (child_in c.put.new.index) stands vacant refl c.in_ok-put.ensures.children
    ∙ ap (λ (q : List Seg). insert (map_of c.self.inside.nodes) q e) way in
    record {
      is = λ _.
          declared_new c.args.path c.args.object c.args.self.now parent (there ∙ ap is_some vacant) (ne_eqb _ _ (λ same. c.if-number.false (ap (λ s. s.next) c.self.view_is ∙ same)))
          ∙ ap (λ (z : Namespace). (Ok z.next, record { map = insert z.map c.args.path (record { number = z.next; object = c.args.object }); next = z.next + 1 })) (sym c.self.view_is)
          ∙ ap (λ (m : Map). (Ok c.self.inside.next, record { map = m; next = c.self.inside.next + 1 })) (sym maps);
    }
