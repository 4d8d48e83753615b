use Rattle.std.proofs.Common.{◌∙◌, ap, map}
use Rattle.aml_path.specs.declared.segment.Seg.{Seg}
use Rattle.std.proofs.Common.{ℕ}
use Rattle.aml_objects.specs.declared.node.NodeId.{NodeId}
use Rattle.aml_namespace.specs.Tree.{segments_below}
use Rattle.aml_namespace.proofs.Children.{in_between}
use Rattle.aml_namespace.proofs.index.Index.children_of.Goals as goal

pub loop-place-init : goal.loop-place-init
loop-place-init c =
    rw (c.new-list.ensures.items, c.into_iter-place-iterator.ensures.into_iter_gives)
    (ap (map (λ (e : (ℕ × Seg) × NodeId). e.0.1)) (c.range-place-items.ensures.between tt)
    ∙ in_between c.args.parent c.least_segment.result c.least_segment-2.result c.least_segment.ensures c.least_segment-2.ensures c.self.inside.places.entries
    ∙ ap (segments_below c.args.parent) c.self.view_is)
