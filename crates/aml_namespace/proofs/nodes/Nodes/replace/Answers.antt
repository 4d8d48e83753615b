use Rattle.std.proofs.Common.{◌≡◌, ◌≢◌, ◌∙◌, ap, sym, ℕ, Some, slice_set, arith}
use Rattle.std.proofs.lemmas.List.{length-set}
use Rattle.aml_namespace.specs.Nodes.{slot_of, object_put, with_node_object}
use Rattle.aml_namespace.proofs.Slots.{stands, set_here, set_beside, object_is, object_keyed, object_nowhere, no_number}
use Rattle.aml_namespace.proofs.Counting.{count_over, taken_within, at_most_all}
use Rattle.aml_namespace.proofs.nodes.Nodes.replace.Goals as goal

pub returns-in_default : goal.returns-in_default
returns-in_default c =
    let none = no_number c.self.inside.slab.slots c.self.inside.keys.entries c.self.invariant.0 c.args.id.number (sym (c.in_default.ensures c.self.invariant.0)) in
    sym c.self.view_is ∙ object_nowhere c.self.inside.slab.slots c.self.inside.keys.entries c.self.invariant.0 c.args.id.number c.args.object none
    ∙ ap (λ m. object_put m c.args.id.number c.args.object) c.self.view_is

pub index_mut-node-requires : goal.index_mut-node-requires
index_mut-node-requires c = stands c.self.inside.slab.slots c.self.inside.keys.entries c.self.invariant.0 c.args.id.number c.in-Some.key (sym (c.in-Some.ensures c.self.invariant.0))

pub overflow_sub-self : goal.overflow_sub-self
overflow_sub-self c = taken_within c.self.inside.slab.slots c.in-Some.key c.self.inside.acquired c.acquired-before.result c.index_mut-node.result.now c.self.invariant.1 c.acquired-before.ensures c.index_mut-node.ensures.value

pub overflow_add-self : goal.overflow_add-self
overflow_add-self c =
    let S = c.self.inside.slab.slots in
    let k = c.in-Some.key in
    let x = c.index_mut-node.result.now in
    let was = c.index_mut-node.ensures.value in
    let N = slice_set S k (Some c.put_object.new.node) in
    let at : slot_of N k ≡ Some (with_node_object c.args.object x) = set_here S k x c.put_object.new.node was ∙ ap Some c.put_object.ensures in
    let beside : (j : ℕ) → j ≢ k → slot_of N j ≡ slot_of S j = set_beside S k (Some c.put_object.new.node) in
    let count = count_over S N k c.self.inside.acquired c.acquired-before.result c.acquired-after.result x (with_node_object c.args.object x) c.self.invariant.1 c.acquired-before.ensures c.acquired-after.ensures was at beside in
    omega (arith, count, at_most_all N, length-set S k (Some c.put_object.new.node), c.capacity-room.ensures.slots, c.capacity-room.type_inv)

pub invariant_of-self : goal.invariant_of-self
invariant_of-self c =
    let S = c.self.inside.slab.slots in
    let k = c.in-Some.key in
    let x = c.index_mut-node.result.now in
    let was = c.index_mut-node.ensures.value in
    let N = slice_set S k (Some c.put_object.new.node) in
    let at : slot_of N k ≡ Some (with_node_object c.args.object x) = set_here S k x c.put_object.new.node was ∙ ap Some c.put_object.ensures in
    let beside : (j : ℕ) → j ≢ k → slot_of N j ≡ slot_of S j = set_beside S k (Some c.put_object.new.node) in
    let count = count_over S N k c.self.inside.acquired c.acquired-before.result c.acquired-after.result x (with_node_object c.args.object x) c.self.invariant.1 c.acquired-before.ensures c.acquired-after.ensures was at beside in
    (object_keyed S c.self.inside.keys.entries c.self.invariant.0 N c.args.id.number k x c.args.object (sym (c.in-Some.ensures c.self.invariant.0)) was at beside, count)

pub returns : goal.returns
returns c =
    let S = c.self.inside.slab.slots in
    let k = c.in-Some.key in
    let x = c.index_mut-node.result.now in
    let was = c.index_mut-node.ensures.value in
    let N = slice_set S k (Some c.put_object.new.node) in
    let at : slot_of N k ≡ Some (with_node_object c.args.object x) = set_here S k x c.put_object.new.node was ∙ ap Some c.put_object.ensures in
    let beside : (j : ℕ) → j ≢ k → slot_of N j ≡ slot_of S j = set_beside S k (Some c.put_object.new.node) in
    object_is S c.self.inside.keys.entries c.self.invariant.0 N c.args.id.number k x c.args.object (sym (c.in-Some.ensures c.self.invariant.0)) was at beside
    ∙ ap (λ m. object_put m c.args.id.number c.args.object) c.self.view_is
