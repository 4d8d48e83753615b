use Rattle.std.proofs.Common.{◌≡◌, ◌≢◌, ◌∙◌, ap, sym, ℕ, Some, slice_set, arith, refl, is_some}
use Rattle.aml_objects.specs.declared.entry.NamedObject.{NamedObject}
use Rattle.aml_objects.specs.declared.entry.NamedObject.TheVariants.{Data}
use Rattle.aml_objects.specs.declared.value.Value.TheVariants.{Integer}
use Rattle.aml_namespace.specs.declared.node.Node.{Node}
use Rattle.aml_namespace.specs.Mutexes.{acquired}
use Rattle.aml_namespace.specs.Nodes.{key_of, slot_of, object_put, with_node_object}
use Rattle.aml_namespace.proofs.Slots.{set_here, set_beside, object_is, object_keyed, by_key}
use Rattle.aml_namespace.proofs.Counting.{count_over}
use Rattle.aml_namespace.proofs.nodes.Nodes.put_integer.Goals as goal

pub index_mut-node-requires : goal.index_mut-node-requires
index_mut-node-requires c = ap is_some (c.is_integer_at.ensures c.if-is_integer_at.true).1

pub invariant_of-self : goal.invariant_of-self
invariant_of-self c =
    let S = c.self.inside.slab.slots in
    let k = c.args.id.key in
    let x = c.index_mut-node.result.now in
    let was : slot_of S k ≡ Some x = c.index_mut-node.ensures.value in
    let y = c.is_integer_at.ensures c.if-is_integer_at.true in
    let same : y.0 ≡ x = cc (y.1, was) in
    let o = Data (Integer c.args.number) in
    let held : x.entry.object ≡ Data (Integer y.3.0) = ap (λ (z : Node). z.entry.object) (sym same) ∙ y.3.1 in
    let number : x.entry.number ≡ c.args.id.number = ap (λ (z : Node). z.entry.number) (sym same) ∙ y.2 in
    let now : c.put_integer.new.object ≡ o = c.put_integer.ensures y.3.0 held in
    let N = slice_set S k (Some (with_node_object c.put_integer.new.object x)) in
    let at : slot_of N k ≡ Some (with_node_object o x) = set_here S k x (with_node_object c.put_integer.new.object x) was ∙ ap (λ (z : NamedObject). Some (with_node_object z x)) now in
    let beside : (j : ℕ) → j ≢ k → slot_of N j ≡ slot_of S j = set_beside S k (Some (with_node_object c.put_integer.new.object x)) in
    let key : key_of c.self.inside.keys.entries c.args.id.number ≡ Some k = ap (key_of c.self.inside.keys.entries) (sym number) ∙ c.self.invariant.0.listed k x was in
    let count = count_over S N k c.self.inside.acquired 0 0 x (with_node_object o x) c.self.invariant.1 (sym (ap acquired held)) refl was at beside in
    (object_keyed S c.self.inside.keys.entries c.self.invariant.0 N c.args.id.number k x o key was at beside, omega (arith, count))

pub returns-then-is_integer_at-clause-put : goal.returns-then-is_integer_at-clause-put
returns-then-is_integer_at-clause-put c = λ _.
    let S = c.self.inside.slab.slots in
    let k = c.args.id.key in
    let x = c.index_mut-node.result.now in
    let was : slot_of S k ≡ Some x = c.index_mut-node.ensures.value in
    let y = c.is_integer_at.ensures c.if-is_integer_at.true in
    let same : y.0 ≡ x = cc (y.1, was) in
    let o = Data (Integer c.args.number) in
    let held : x.entry.object ≡ Data (Integer y.3.0) = ap (λ (z : Node). z.entry.object) (sym same) ∙ y.3.1 in
    let number : x.entry.number ≡ c.args.id.number = ap (λ (z : Node). z.entry.number) (sym same) ∙ y.2 in
    let now : c.put_integer.new.object ≡ o = c.put_integer.ensures y.3.0 held in
    let N = slice_set S k (Some (with_node_object c.put_integer.new.object x)) in
    let at : slot_of N k ≡ Some (with_node_object o x) = set_here S k x (with_node_object c.put_integer.new.object x) was ∙ ap (λ (z : NamedObject). Some (with_node_object z x)) now in
    let beside : (j : ℕ) → j ≢ k → slot_of N j ≡ slot_of S j = set_beside S k (Some (with_node_object c.put_integer.new.object x)) in
    let key : key_of c.self.inside.keys.entries c.args.id.number ≡ Some k = ap (key_of c.self.inside.keys.entries) (sym number) ∙ c.self.invariant.0.listed k x was in
    object_is S c.self.inside.keys.entries c.self.invariant.0 N c.args.id.number k x o key was at beside
    ∙ ap (λ m. object_put m c.args.id.number o) c.self.view_is

pub returns-then-is_integer_at-clause-held : goal.returns-then-is_integer_at-clause-held
returns-then-is_integer_at-clause-held c = λ _ z at.
    let y = c.is_integer_at.ensures c.if-is_integer_at.true in
    let here = by_key c.self.inside.slab.slots c.self.inside.keys.entries c.self.invariant.0 c.args.id.key c.args.id.number y.0 y.1 y.2 in
    let same : y.0 ≡ z = cc (here, c.self.view_is, at) in
    (y.3.0, ap (λ (x : Node). x.entry.object) (sym same) ∙ y.3.1)

pub returns-then-is_integer_at-clause-gone : goal.returns-then-is_integer_at-clause-gone
returns-then-is_integer_at-clause-gone c = λ none.
    let y = c.is_integer_at.ensures c.if-is_integer_at.true in
    let here = by_key c.self.inside.slab.slots c.self.inside.keys.entries c.self.invariant.0 c.args.id.key c.args.id.number y.0 y.1 y.2 in
    absurd (cc (here, c.self.view_is, none))
