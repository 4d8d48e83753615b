use Rattle.std.proofs.Common.{◌∙◌, ◌+◌, ap, sym, drop}
use Rattle.std.specs.Prelude.{option_and_then}
use Rattle.std.proofs.lemmas.List.{drop_all}
use Rattle.aml_namespace.specs.Tree.{child_in, down}
use Rattle.aml_namespace.proofs.Finding.{down_step}
use Rattle.aml_namespace.proofs.tree.descend.Goals as goal

pub returns-in-None : goal.returns-in-None
returns-in-None c =
    let children = child_in c.args.index.now in
    sym (sym c.loop-segment.invariant
    ∙ down_step children c.loop-segment.current.number c.args.segments.now c.loop-segment.segment-index c.segment-item.result c.loop-segment-test.true c.segment-item.is
    ∙ ap (option_and_then (λ k. down children k (drop (c.loop-segment.segment-index + 1) c.args.segments.now))) (sym c.in-None.ensures))

pub loop-segment-preserved : goal.loop-segment-preserved
loop-segment-preserved c =
    let children = child_in c.args.index.now in
    sym (down_step children c.loop-segment.current.number c.args.segments.now c.loop-segment.segment-index c.segment-item.result c.loop-segment-test.true c.segment-item.is
    ∙ ap (option_and_then (λ k. down children k (drop (c.loop-segment.segment-index + 1) c.args.segments.now))) (sym c.in-Some.ensures))
    ∙ c.loop-segment.invariant

pub returns : goal.returns
returns c =
    sym (ap (down (child_in c.args.index.now) c.loop-segment.current.number) (drop_all c.loop-segment.segment-index c.args.segments.now c.loop-segment-test.false))
    ∙ c.loop-segment.invariant
