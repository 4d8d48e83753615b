use Rattle.std.proofs.Common.{◌≡◌, ◌∙◌, ap, sym, Option, Some, None, is_some, true, refl}
use Rattle.std.specs.Option.{option_map}
use Rattle.std.specs.BTreeMap.{is_at}
use Rattle.std.specs.Map.{lookup}
use Rattle.aml_objects.specs.declared.node.NodeId.{NodeId}
use Rattle.aml_namespace.specs.Tree.{Index, index_cmp, child_in}
use Rattle.aml_namespace.proofs.Marking.{unmarked}
use Rattle.aml_namespace.proofs.Indexes.{from_least, same_parent}
use Rattle.aml_namespace.proofs.index.Index.first_child.Goals as goal

none_unless : (o : Option NodeId) → (is_some o ≡ true → ⊥) → o ≡ None
none_unless None h = refl
none_unless (Some x) h = absurd (h refl)

pub returns-then-not-contains : goal.returns-then-not-contains
returns-then-not-contains c = λ s.
    ap (λ (es : Index). child_in es c.args.parent s) (sym c.self.view_is)
    ∙ unmarked c.self.inside.parents c.self.inside.places.entries c.self.invariant.0 c.args.parent (sym c.contains.ensures ∙ c.if-not-contains.true) s

pub returns-in-None : goal.returns-in-None
returns-in-None c = λ s.
    let low = c.least_segment.result in
    let range = c.range-from.ensures.in_range tt in
    ap (λ es. child_in es c.args.parent s) (sym c.self.view_is)
    ∙ ap (option_map (λ (id : NodeId). id.number)) (range.5 c.in-None.ensures.steps.0 (c.args.parent, s) (from_least c.args.parent low c.least_segment.ensures s, tt))

pub returns-then-place-parent : goal.returns-then-place-parent
returns-then-place-parent c =
    let range = c.range-from.ensures.in_range tt in
    let first = rw c.in-Some.ensures.steps at range.1 in
    ap (λ es. child_in es c.args.parent c.in-Some.place.now.1) (sym c.self.view_is)
    ∙ ap (λ p. child_in c.self.inside.places.entries p c.in-Some.place.now.1) (sym c.if-place-parent.true) ∙ ap (option_map (λ (id : NodeId). id.number)) first.1

pub returns-else-place-parent : goal.returns-else-place-parent
returns-else-place-parent c = λ s.
    let low = c.least_segment.result in
    let range = c.range-from.ensures.in_range tt in
    let first = rw c.in-Some.ensures.steps at range.1 in
    ap (λ es. child_in es c.args.parent s) (sym c.self.view_is)
    ∙ ap (option_map (λ (id : NodeId). id.number)) (none_unless (lookup (is_at (index_cmp (c.args.parent, s))) c.self.inside.places.entries) (λ stands.
    let least = range.2 (c.args.parent, s) (from_least c.args.parent low c.least_segment.ensures s, tt) stands in
    let later = rw c.in-Some.ensures.steps at least in
    c.if-place-parent.false (same_parent c.args.parent low c.least_segment.ensures c.in-Some.place.now s first.0.0 later)))
