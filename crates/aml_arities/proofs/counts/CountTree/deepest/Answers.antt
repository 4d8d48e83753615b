use Rattle.std.proofs.Common.{◌≡◌, ◌∙◌, ◌+◌, ◌<◌, ◌++◌, ◌∷◌, [], ℕ, Bool, ap, sym, subst, get_or, length, take, List, Option, Some, None, if◌then◌else◌, arith, refl}
use Rattle.aml_path.specs.declared.segment.Seg.{Seg}
use Rattle.aml_arities.specs.Arities.{greatest}
use Rattle.aml_arities.specs.PathTree.{number_of}
use Rattle.aml_arities.specs.Counts.{Counted, is_shown_below}
use Rattle.aml_arities.proofs.PathTrees.{number_is, taken}
use Rattle.aml_arities.proofs.Deepest.{greatest_next, shown_here, ends_here}
use Rattle.aml_arities.proofs.counts.CountTree.deepest.Goals as goal

pub is_shown-requires : goal.is_shown-requires
is_shown-requires c =
    let same : c.self.inside.tree ≡ c.args.self.now.paths = ap (λ (t : Counted). t.paths) c.self.view_is in
    subst (λ (ps : List (List Seg)). c.root-node.result < length ps) same (number_is [] c.self.inside.tree c.root-node.result c.root-node.ensures).0

pub loop-step-init : goal.loop-step-init
loop-step-init c =
    let same : c.self.inside.tree ≡ c.args.self.now.paths = ap (λ (t : Counted). t.paths) c.self.view_is in
    let root : number_of [] c.args.self.now.paths ≡ Some c.root-node.result = subst (λ (ps : List (List Seg)). number_of [] ps ≡ Some c.root-node.result) same c.root-node.ensures in
    record {
      number = root;
      depth = refl;
      deepest = c.deepest_so_far-deepest.ensures ∙ ap (λ (b : Bool). if b then Some 0 else None) (c.is_shown.ensures ∙ shown_here c.args.any c.args.self.now c.segments-steps.result.now c.args.segments.now 0 c.root-node.result root);
    }

pub below-requires : goal.below-requires
below-requires c =
    let same : c.self.inside.tree ≡ c.args.self.now.paths = ap (λ (t : Counted). t.paths) c.self.view_is in
    subst (λ (ps : List (List Seg)). c.loop-step.node < length ps) (sym same) (number_is _ c.args.self.now.paths c.loop-step.node c.loop-step.invariant.number).0

pub returns-in-None : goal.returns-in-None
returns-in-None c =
    let same : c.self.inside.tree ≡ c.args.self.now.paths = ap (λ (t : Counted). t.paths) c.self.view_is in
    let steps = c.segments-steps.result.now in
    let i = c.loop-step.step-index in
    let s = c.step-item.result in
    let at = number_is (take i steps) c.args.self.now.paths c.loop-step.node c.loop-step.invariant.number in
    let none : (rest : List Seg) → number_of (take i steps ++ s ∷ rest) c.args.self.now.paths ≡ None = λ rest.
    ap (λ (p : List Seg). number_of (p ++ s ∷ rest) c.args.self.now.paths) (sym at.1)
    ∙ subst (λ (ps : List (List Seg)). number_of (get_or ps c.loop-step.node [] ++ s ∷ rest) ps ≡ None) same (c.below.ensures.deeper c.in-None.is rest) in
    c.loop-step.invariant.deepest
    ∙ sym (ends_here c.args.any c.args.self.now steps c.args.segments.now i s c.loop-step-test.true c.step-item.is none)
    ∙ ap (λ (p : List Seg). greatest (is_shown_below c.args.any c.args.self.now p c.args.segments.now) (length p)) c.segments-steps.ensures

pub overflow_add-depth : goal.overflow_add-depth
overflow_add-depth c =
    let d = c.loop-step.invariant.depth in
    let lt = c.loop-step-test.true in
    let few = c.segments-steps.type_inv.0 in
    omega (arith, d, lt, few)

pub is_shown-requires-in-loop-step : goal.is_shown-requires-in-loop-step
is_shown-requires-in-loop-step c =
    let same : c.self.inside.tree ≡ c.args.self.now.paths = ap (λ (t : Counted). t.paths) c.self.view_is in
    subst (λ (ps : List (List Seg)). c.in-Some.next < length ps) same (number_is _ c.self.inside.tree c.in-Some.next (sym c.in-Some.ensures.here)).0

pub loop-step-preserved : goal.loop-step-preserved
loop-step-preserved c =
    let same : c.self.inside.tree ≡ c.args.self.now.paths = ap (λ (t : Counted). t.paths) c.self.view_is in
    let steps = c.segments-steps.result.now in
    let i = c.loop-step.step-index in
    let s = c.step-item.result in
    let f = is_shown_below c.args.any c.args.self.now steps c.args.segments.now in
    let at = number_is (take i steps) c.args.self.now.paths c.loop-step.node c.loop-step.invariant.number in
    let here : Some c.in-Some.next ≡ number_of (get_or c.args.self.now.paths c.loop-step.node [] ++ s ∷ []) c.args.self.now.paths =
    subst (λ (ps : List (List Seg)). Some c.in-Some.next ≡ number_of (get_or ps c.loop-step.node [] ++ s ∷ []) ps) same c.in-Some.ensures.here in
    let number : number_of (take (i + 1) steps) c.args.self.now.paths ≡ Some c.in-Some.next =
    ap (λ (p : List Seg). number_of p c.args.self.now.paths) (taken steps i s c.loop-step-test.true c.step-item.is ∙ ap (λ (p : List Seg). p ++ s ∷ []) (sym at.1)) ∙ sym here in
    let depth : c.loop-step.depth + 1 ≡ i + 1 = ap (λ (n : ℕ). n + 1) c.loop-step.invariant.depth in
    record {
      number = number;
      depth = depth;
      deepest =
          c.deepest_so_far-deepest-in-loop-step.ensures
          ∙ ap (λ (b : Bool). if b then Some (c.loop-step.depth + 1) else c.loop-step.deepest) (c.is_shown-in-loop-step.ensures ∙ shown_here c.args.any c.args.self.now steps c.args.segments.now (i + 1) c.in-Some.next number)
          ∙ ap (λ (n : ℕ). if f (i + 1) then Some n else c.loop-step.deepest) depth
          ∙ ap (λ (o : Option ℕ). if f (i + 1) then Some (i + 1) else o) c.loop-step.invariant.deepest
          ∙ sym (greatest_next f i);
    }

pub returns : goal.returns
returns c =
    let steps = c.segments-steps.result.now in
    let ends : c.loop-step.step-index ≡ length steps = (let le = c.loop-step.auto.step-index-end in let ge = c.loop-step-test.false in omega (arith, le, ge)) in
    c.loop-step.invariant.deepest
    ∙ ap (greatest (is_shown_below c.args.any c.args.self.now steps c.args.segments.now)) ends
    ∙ ap (λ (p : List Seg). greatest (is_shown_below c.args.any c.args.self.now p c.args.segments.now) (length p)) c.segments-steps.ensures
