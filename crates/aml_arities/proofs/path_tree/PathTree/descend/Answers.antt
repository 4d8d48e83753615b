use Rattle.std.proofs.Common.{◌≡◌, ◌∙◌, ◌+◌, ◌<◌, ◌++◌, ◌∷◌, [], ap, sym, subst, get_or, length, take, drop, List, Some, append_assoc, append-nil}
use Rattle.std.proofs.lemmas.List.{take_all}
use Rattle.aml_path.specs.declared.segment.Seg.{Seg}
use Rattle.aml_arities.specs.PathTree.{number_of, paths_of, child_in}
use Rattle.aml_arities.proofs.PathTrees.{number_is, taken, split_at, distinct}
use Rattle.aml_arities.proofs.path_tree.PathTree.descend.Goals as goal

pub loop-segment-init : goal.loop-segment-init
loop-segment-init c =
    let steps = c.self.inside.steps.items in
    let within : c.args.start < length (paths_of steps) = subst (λ (ps : List (List Seg)). c.args.start < length ps) (sym c.self.view_is) c.requires in
    ap (λ (p : List Seg). number_of p c.args.self.now) (append-nil (get_or c.args.self.now c.args.start []))
    ∙ subst (λ (ps : List (List Seg)). number_of (get_or ps c.args.start []) ps ≡ Some c.args.start) c.self.view_is
    (distinct steps (child_in c.self.inside.index.entries) c.self.invariant c.args.start within)

pub below-requires : goal.below-requires
below-requires c = (number_is _ c.args.self.now c.loop-segment.node c.loop-segment.invariant).0

pub returns-in-None : goal.returns-in-None
returns-in-None c =
    let first = get_or c.args.self.now c.args.start [] in
    let segments = c.args.segments.now in
    let i = c.loop-segment.segment-index in
    let s = c.segment-item.result in
    let rest = drop (i + 1) segments in
    let at = number_is (first ++ take i segments) c.args.self.now c.loop-segment.node c.loop-segment.invariant in
    sym (ap (λ (p : List Seg). number_of (first ++ p) c.args.self.now) (sym (split_at segments i s c.loop-segment-test.true c.segment-item.is))
    ∙ ap (λ (p : List Seg). number_of p c.args.self.now) (sym (append_assoc first (take i segments) (s ∷ rest)) ∙ ap (λ (p : List Seg). p ++ s ∷ rest) (sym at.1))
    ∙ c.below.ensures.deeper c.in-None.is rest)

pub loop-segment-preserved : goal.loop-segment-preserved
loop-segment-preserved c =
    let first = get_or c.args.self.now c.args.start [] in
    let segments = c.args.segments.now in
    let i = c.loop-segment.segment-index in
    let s = c.segment-item.result in
    let at = number_is (first ++ take i segments) c.args.self.now c.loop-segment.node c.loop-segment.invariant in
    ap (λ (p : List Seg). number_of (first ++ p) c.args.self.now) (taken segments i s c.loop-segment-test.true c.segment-item.is)
    ∙ ap (λ (p : List Seg). number_of p c.args.self.now) (sym (append_assoc first (take i segments) (s ∷ [])) ∙ ap (λ (p : List Seg). p ++ s ∷ []) (sym at.1))
    ∙ sym c.in-Some.ensures.here

pub returns : goal.returns
returns c =
    sym (ap (λ (p : List Seg). number_of (get_or c.args.self.now c.args.start [] ++ p) c.args.self.now) (sym (take_all c.loop-segment.segment-index c.args.segments.now c.loop-segment-test.false))
    ∙ c.loop-segment.invariant)
