use Rattle.std.proofs.Common.{◌∙◌, ap, Some, cond}
use Rattle.std.specs.Ordering.{eq_by_cmp}
use Rattle.std.specs.FinMap.{insert, remove}
use Rattle.aml_namespace.specs.Nodes.{NodeMap}
use Rattle.aml_namespace.specs.Tree.{index_cmp, child_in}
use Rattle.aml_namespace.proofs.Declaring.{put_undone}
use Rattle.aml_namespace.proofs.tree.put.Goals as goal

pub returns-in-Err-clause-nodes_unchanged : goal.returns-in-Err-clause-nodes_unchanged
returns-in-Err-clause-nodes_unchanged c =
    let n = c.args.node.entry.number in
    c.remove.ensures
    ∙ ap (λ (m : NodeMap). remove m c.in_ok-id.id.number) c.in_ok-id.ensures.put
    ∙ ap (remove (insert c.args.nodes.now n c.args.node)) c.in_ok-id.ensures.id
    ∙ put_undone c.args.nodes.now n c.args.node c.requires.new

pub returns-in-Ok-clause-children : goal.returns-in-Ok-clause-children
returns-in-Ok-clause-children c = λ p s.
    c.in-Ok.ensures.children p s
    ∙ ap (λ k. cond (eq_by_cmp index_cmp (c.args.node.parent.number, c.args.node.segment) (p, s)) (Some k) (child_in c.args.index.now p s)) c.in_ok-id.ensures.id
