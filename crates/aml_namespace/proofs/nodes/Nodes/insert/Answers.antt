use Rattle.std.proofs.Common.{◌≡◌, ◌≢◌, ◌∙◌, ap, sym, refl, cond, ℕ, Some, None, arith}
use Rattle.std.specs.Ordering.{nat_cmp, eq_by_cmp}
use Rattle.std.specs.FinMap.{get, insert}
use Rattle.aml_namespace.specs.Nodes.{slot_of, key_of}
use Rattle.aml_namespace.proofs.Slots.{put_is, put_keyed}
use Rattle.aml_namespace.proofs.Counting.{count_put, at_most_all}
use Rattle.aml_namespace.proofs.nodes.Nodes.insert.Goals as goal

pub overflow_add-self : goal.overflow_add-self
overflow_add-self c =
    let S = c.self.inside.slab.slots in
    let N = c.insert_reserved-key.new.self.slots in
    let k = c.insert_reserved-key.result in
    let same : (j : ℕ) → slot_of c.reserve.new.self.slots j ≡ slot_of S j = λ j. ap (λ s. slot_of s.slots j) c.reserve.ensures.rest_kept in
    let vacant : slot_of S k ≡ None = sym (same k) ∙ c.insert_reserved-key.ensures.was_vacant in
    let beside : (j : ℕ) → j ≢ k → slot_of N j ≡ slot_of S j = λ j ne. c.insert_reserved-key.ensures.updates.others j ne ∙ same j in
    let count = count_put S N k c.self.inside.acquired c.acquired-more.result c.args.node c.self.invariant.1 c.acquired-more.ensures vacant c.insert_reserved-key.ensures.updates.changed beside in
    omega (arith, count, at_most_all N, c.capacity-room.ensures.slots, c.capacity-room.type_inv)

pub invariant_of-self-2 : goal.invariant_of-self-2
invariant_of-self-2 c =
    let S = c.self.inside.slab.slots in
    let N = c.insert_reserved-key.new.self.slots in
    let k = c.insert_reserved-key.result in
    let same : (j : ℕ) → slot_of c.reserve.new.self.slots j ≡ slot_of S j = λ j. ap (λ s. slot_of s.slots j) c.reserve.ensures.rest_kept in
    let vacant : slot_of S k ≡ None = sym (same k) ∙ c.insert_reserved-key.ensures.was_vacant in
    let beside : (j : ℕ) → j ≢ k → slot_of N j ≡ slot_of S j = λ j ne. c.insert_reserved-key.ensures.updates.others j ne ∙ same j in
    let count = count_put S N k c.self.inside.acquired c.acquired-more.result c.args.node c.self.invariant.1 c.acquired-more.ensures vacant c.insert_reserved-key.ensures.updates.changed beside in
    let new = ap (λ m. get m c.args.node.entry.number) c.self.view_is ∙ c.requires.new in
    let updated : (q : ℕ) → key_of c.insert.new.self.entries q ≡ cond (eq_by_cmp nat_cmp c.args.node.entry.number q) (Some k) (key_of c.self.inside.keys.entries q) = λ q.
    c.in_ok-insert.ensures.updates.0 q ∙ ap (λ i. cond (eq_by_cmp nat_cmp c.args.node.entry.number q) (Some i) (key_of c.self.inside.keys.entries q)) (c.vacant_key.ensures.value ∙ sym c.insert_reserved-key.ensures.key) in
    (put_keyed S c.self.inside.keys.entries c.self.invariant.0 N c.insert.new.self.entries c.args.node.entry.number k c.args.node new refl vacant c.insert_reserved-key.ensures.updates.changed beside updated, count)

pub returns-clause-put : goal.returns-clause-put
returns-clause-put c =
    let S = c.self.inside.slab.slots in
    let N = c.insert_reserved-key.new.self.slots in
    let k = c.insert_reserved-key.result in
    let same : (j : ℕ) → slot_of c.reserve.new.self.slots j ≡ slot_of S j = λ j. ap (λ s. slot_of s.slots j) c.reserve.ensures.rest_kept in
    let vacant : slot_of S k ≡ None = sym (same k) ∙ c.insert_reserved-key.ensures.was_vacant in
    let beside : (j : ℕ) → j ≢ k → slot_of N j ≡ slot_of S j = λ j ne. c.insert_reserved-key.ensures.updates.others j ne ∙ same j in
    let count = count_put S N k c.self.inside.acquired c.acquired-more.result c.args.node c.self.invariant.1 c.acquired-more.ensures vacant c.insert_reserved-key.ensures.updates.changed beside in
    let new = ap (λ m. get m c.args.node.entry.number) c.self.view_is ∙ c.requires.new in
    let updated : (q : ℕ) → key_of c.insert.new.self.entries q ≡ cond (eq_by_cmp nat_cmp c.args.node.entry.number q) (Some k) (key_of c.self.inside.keys.entries q) = λ q.
    c.in_ok-insert.ensures.updates.0 q ∙ ap (λ i. cond (eq_by_cmp nat_cmp c.args.node.entry.number q) (Some i) (key_of c.self.inside.keys.entries q)) (c.vacant_key.ensures.value ∙ sym c.insert_reserved-key.ensures.key) in
    put_is S c.self.inside.keys.entries c.self.invariant.0 N c.insert.new.self.entries c.args.node.entry.number k c.args.node new refl vacant c.insert_reserved-key.ensures.updates.changed beside updated
    ∙ ap (λ m. insert m c.args.node.entry.number c.args.node) c.self.view_is
