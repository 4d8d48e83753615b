-- Each arm is one item more.
use Rattle.std.proofs.Common.{◌≡◌, inl, inr, [], sym, ap, ◌∙◌, rules}
use Rattle.acpi_resources.specs.declared.descriptor.Descriptor.TheVariants.{Interrupts, DependentFunctions, EndTag, Other}
use Rattle.acpi_resources.specs.Items.{items_of}
use Rattle.acpi_resources.specs.Numbers.{with_numbers}
use Rattle.acpi_resources.specs.Records.{InterruptDescriptor}
use Rattle.acpi_resources.specs.Current.{current_of}
use Rattle.acpi_resources.proofs.Offering.{arm}
use Rattle.acpi_resources.proofs.Gathering.{gathered, item_refused, interrupts_added, dependent_functions, other_descriptor, end_tag, no_end}
use Rattle.acpi_resources.proofs.current_resources.current.Goals as goal

pub loop-item-init : goal.loop-item-init
unfolding current_of gathered
loop-item-init c =
    let same : c.into_iter-item-iterator.result ≡ items_of c.args.bytes.now = cc in
    ap (λ items. gathered [] items) (sym same) ∙ ap (λ keys. gathered keys c.into_iter-item-iterator.result) (sym c.new-numbers.ensures.empty)

pub returns-in_err-interrupts : goal.returns-in_err-interrupts
returns-in_err-interrupts c =
    item_refused _ _ _ _ _ c.loop-item.invariant c.in-Some.ensures.steps _ c.in_err-interrupts.field-0.0 c.in_err-interrupts.ensures (search rules)

pub loop-item-preserved-in_ok-add_to-in-Interrupts : goal.loop-item-preserved-in_ok-add_to-in-Interrupts
loop-item-preserved-in_ok-add_to-in-Interrupts c =
    let is = arm c.in-Some.item c.in_ok-interrupts.field-0 (Interrupts c.in-Interrupts.interrupts) c.in_ok-interrupts.ensures c.in-Interrupts.is in
    interrupts_added _ _ _ _ _ c.loop-item.invariant c.in-Some.ensures.steps _ c.add_to.new.numbers.keys is
    (c.in_ok-add_to-in-Interrupts.ensures ∙ ap (λ (d : InterruptDescriptor). with_numbers c.loop-item.numbers.keys d.numbers) c.interrupts.view_is)

pub loop-item-preserved : goal.loop-item-preserved
loop-item-preserved c =
    elim c.in-DependentFunctions.is [
      | inl is ↦ dependent_functions _ _ _ _ _ c.loop-item.invariant c.in-Some.ensures.steps (arm c.in-Some.item c.in_ok-interrupts.field-0 DependentFunctions c.in_ok-interrupts.ensures is)
      | inr is ↦ other_descriptor _ _ _ _ _ c.loop-item.invariant c.in-Some.ensures.steps is.0 (arm c.in-Some.item c.in_ok-interrupts.field-0 (Other is.0) c.in_ok-interrupts.ensures is.1)
    ]

pub returns-in-EndTag : goal.returns-in-EndTag
returns-in-EndTag c =
    let is = arm c.in-Some.item c.in_ok-interrupts.field-0 EndTag c.in_ok-interrupts.ensures c.in-EndTag.is in
    end_tag _ _ _ _ _ c.loop-item.invariant c.in-Some.ensures.steps _ is c.in_ok-from_set-in-EndTag.ensures.value

pub returns : goal.returns
returns c = no_end _ _ _ c.loop-item.invariant c.in-None.ensures.steps.0
