use Rattle.std.proofs.Common.{◌∙◌, ap, sym}
use Rattle.std.specs.FinMap.{remove}
use Rattle.aml_namespace.specs.Nodes.{nodes_of}
use Rattle.aml_namespace.proofs.Slots.{stands, removed_is, removed_keyed, remove_absent}
use Rattle.aml_namespace.proofs.Counting.{count_taken, taken_within}
use Rattle.aml_namespace.proofs.nodes.Nodes.remove.Goals as goal

pub returns-in_default : goal.returns-in_default
returns-in_default c =
    ap (nodes_of c.self.inside.slab.slots) c.in_default.ensures.unchanged
    ∙ remove_absent c.self.inside.slab.slots c.self.inside.keys.entries c.self.invariant.0 c.args.id.number (sym c.in_default.ensures.value)
    ∙ ap (λ m. remove m c.args.id.number) c.self.view_is

pub remove-node-requires : goal.remove-node-requires
remove-node-requires c = stands c.self.inside.slab.slots c.self.inside.keys.entries c.self.invariant.0 c.args.id.number c.in-Some.key (sym c.in-Some.ensures.value)

pub overflow_sub-self : goal.overflow_sub-self
overflow_sub-self c = taken_within c.self.inside.slab.slots c.in-Some.key c.self.inside.acquired c.acquired.result c.remove-node.result c.self.invariant.1 c.acquired.ensures c.remove-node.ensures.value

pub invariant_of-self-2 : goal.invariant_of-self-2
invariant_of-self-2 c = (
  removed_keyed c.self.inside.slab.slots c.self.inside.keys.entries c.self.invariant.0 c.remove-node.new.self.slots c.remove.new.self.entries c.args.id.number c.in-Some.key
      (sym c.in-Some.ensures.value) c.remove-node.ensures.updates.changed c.remove-node.ensures.updates.others c.in-Some.ensures.updates.0,
  count_taken c.self.inside.slab.slots c.remove-node.new.self.slots c.in-Some.key c.self.inside.acquired c.acquired.result c.remove-node.result c.self.invariant.1 c.acquired.ensures c.remove-node.ensures.value c.remove-node.ensures.updates.changed c.remove-node.ensures.updates.others,
)

pub returns : goal.returns
returns c =
    removed_is c.self.inside.slab.slots c.self.inside.keys.entries c.self.invariant.0 c.remove-node.new.self.slots c.remove.new.self.entries c.args.id.number c.in-Some.key
    (sym c.in-Some.ensures.value) c.remove-node.ensures.updates.changed c.remove-node.ensures.updates.others c.in-Some.ensures.updates.0
    ∙ ap (λ m. remove m c.args.id.number) c.self.view_is
