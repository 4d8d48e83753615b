use Rattle.std.proofs.Common.{◌≡◌, ◌∙◌, ◌+◌, ◌++◌, ◌∷◌, [], ap, sym, get_or, take, drop, List, Some}
use Rattle.std.proofs.lemmas.List.{take_all}
use Rattle.aml_path.specs.declared.segment.Seg.{Seg}
use Rattle.aml_arities.specs.PathTree.{number_of, Kept}
use Rattle.aml_arities.proofs.PathTrees.{number_is, taken, kept_itself, kept_more}
use Rattle.aml_arities.proofs.path_tree.PathTree.make.Goals as goal

pub loop-segment-init : goal.loop-segment-init
loop-segment-init c = record { kept = kept_itself c.args.self.now; node = c.root-node.ensures }

pub child-requires : goal.child-requires
child-requires c = (number_is _ c.loop-segment.self c.loop-segment.node c.loop-segment.invariant.node).0

pub returns-in_err-node-clause-kept : goal.returns-in_err-node-clause-kept
returns-in_err-node-clause-kept c = kept_more c.args.self.now c.loop-segment.self c.child.new.self c.loop-segment.invariant.kept c.child.ensures.kept

pub loop-segment-preserved : goal.loop-segment-preserved
loop-segment-preserved c =
    let segments = c.segments-segments.result.now in
    let i = c.loop-segment.segment-index in
    let s = c.segment-item.result in
    let at = number_is (take i segments) c.loop-segment.self c.loop-segment.node c.loop-segment.invariant.node in
    record {
      kept = kept_more c.args.self.now c.loop-segment.self c.child.new.self c.loop-segment.invariant.kept c.child.ensures.kept;
      node = ap (λ (p : List Seg). number_of p c.child.new.self) (taken segments i s c.loop-segment-test.true c.segment-item.is ∙ ap (λ (p : List Seg). p ++ s ∷ []) (sym at.1)) ∙ c.in_ok-node.ensures.node;
    }

pub returns-clause-kept : goal.returns-clause-kept
returns-clause-kept c = c.loop-segment.invariant.kept

pub returns-clause-node : goal.returns-clause-node
returns-clause-node c = ap (λ (p : List Seg). number_of p c.loop-segment.self) (sym (take_all c.loop-segment.segment-index c.segments-segments.result.now c.loop-segment-test.false ∙ c.segments-segments.ensures)) ∙ c.loop-segment.invariant.node
