-- Each item adds its bytes.
use Rattle.std.proofs.Common.{◌≡◌, sym, ◌∙◌, ap, arith, rules, refl, length}
use Rattle.acpi_resources.proofs.BeforeEnd.{at_start, none_left, at_end_tag, at_item, shorter, end_tag_length}
use Rattle.acpi_resources.proofs.end_tag.length_before_end_tag.Goals as goal

pub items-init : goal.items-init
items-init c = (omega arith, at_start c.args.bytes.now)

pub returns-in_err-item-clause-value : goal.returns-in_err-item-clause-value
returns-in_err-item-clause-value c = c.from_residual.ensures ∙ sym (c.items.invariant.1 ∙ none_left _ _ c.in_err-item.ensures)

pub overflow_sub-result : goal.overflow_sub-result
overflow_sub-result c = c.items.invariant.0

pub returns-then-item-eq-END_TAG-clause-value : goal.returns-then-item-eq-END_TAG-clause-value
returns-then-item-eq-END_TAG-clause-value c =
    sym (c.items.invariant.1 ∙ at_end_tag c.args.bytes.now c.items.rest.now c.in_ok-item.behind.now c.in_ok-item.item c.in_ok-item.ensures (search rules))

pub returns-then-item-eq-END_TAG-clause-within : goal.returns-then-item-eq-END_TAG-clause-within
returns-then-item-eq-END_TAG-clause-within c =
    let tag : c.in_ok-item.item.tag ≡ 0x79 = ap (λ i. i.tag) (sym c.item.view_is) ∙ c.if-item-eq-END_TAG.true in
    let body : length c.in_ok-item.item.body ≡ 1 = ap (λ i. length i.body) (sym c.item.view_is) ∙ c.item.invariant (rw c.if-item-eq-END_TAG.true refl) ∙ rw c.if-item-eq-END_TAG.true refl in
    omega (arith, c.items.invariant.0, end_tag_length c.items.rest.now c.in_ok-item.item c.in_ok-item.behind.now c.in_ok-item.ensures tag body)

pub items-smaller : goal.items-smaller
items-smaller c = omega (arith, shorter c.items.rest.now c.in_ok-item.item c.in_ok-item.behind.now c.in_ok-item.ensures)

pub items-preserved : goal.items-preserved
items-preserved c = (
  omega (arith, c.items.invariant.0, shorter c.items.rest.now c.in_ok-item.item c.in_ok-item.behind.now c.in_ok-item.ensures),
  c.items.invariant.1 ∙ at_item c.args.bytes.now c.items.rest.now c.in_ok-item.behind.now c.in_ok-item.item c.items.invariant.0 c.in_ok-item.ensures (search rules),
)
