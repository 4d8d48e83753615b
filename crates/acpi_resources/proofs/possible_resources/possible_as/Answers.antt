-- Each arm is one item more.
use Rattle.std.proofs.Common.{◌≡◌, None, sym, ap, rules}
use Rattle.acpi_resources.specs.declared.descriptor.Descriptor.TheVariants.{Interrupts, DependentFunctions, EndTag, Other}
use Rattle.acpi_resources.specs.Items.{items_of}
use Rattle.acpi_resources.specs.Offers.{offered, possible_as}
use Rattle.acpi_resources.proofs.Offering.{arm, item_refused, interrupts_refused, interrupts_taken, dependent_functions, other_descriptor, end_tag, no_end}
use Rattle.acpi_resources.proofs.possible_resources.possible_as.Goals as goal

pub loop-item-init : goal.loop-item-init
unfolding possible_as
loop-item-init c =
    let same : c.into_iter-item-iterator.result ≡ items_of c.args.bytes.now = cc in
    ap (λ items. offered c.args.exclusives None items) (sym same)

pub returns-in_err-interrupts : goal.returns-in_err-interrupts
returns-in_err-interrupts c =
    item_refused _ _ _ _ _ _ c.loop-item.invariant c.in-Some.ensures.steps _ c.in_err-interrupts.field-0.0 c.in_err-interrupts.ensures (search rules)

pub returns-in_err-only_offer-in-Interrupts : goal.returns-in_err-only_offer-in-Interrupts
returns-in_err-only_offer-in-Interrupts c =
    let is = arm c.in-Some.item c.in_ok-interrupts.field-0 (Interrupts c.in-Interrupts.interrupts) c.in_ok-interrupts.ensures c.in-Interrupts.is in
    interrupts_refused _ _ _ _ _ _ c.loop-item.invariant c.in-Some.ensures.steps _ _ _ is c.in_err-only_offer-in-Interrupts.ensures (search rules)

pub loop-item-preserved : goal.loop-item-preserved
loop-item-preserved c =
    let is = arm c.in-Some.item c.in_ok-interrupts.field-0 (Interrupts c.in-Interrupts.interrupts) c.in_ok-interrupts.ensures c.in-Interrupts.is in
    interrupts_taken _ _ _ _ _ _ c.loop-item.invariant c.in-Some.ensures.steps _ _ is c.in_ok-only_offer-in-Interrupts.ensures

pub returns-in-DependentFunctions : goal.returns-in-DependentFunctions
returns-in-DependentFunctions c =
    let is = arm c.in-Some.item c.in_ok-interrupts.field-0 DependentFunctions c.in_ok-interrupts.ensures c.in-DependentFunctions.is in
    dependent_functions _ _ _ _ _ _ c.loop-item.invariant c.in-Some.ensures.steps is

pub returns-in-Other : goal.returns-in-Other
returns-in-Other c =
    let is = arm c.in-Some.item c.in_ok-interrupts.field-0 (Other c.in-Other.tag) c.in_ok-interrupts.ensures c.in-Other.is in
    other_descriptor _ _ _ _ _ _ c.loop-item.invariant c.in-Some.ensures.steps _ is

pub returns-in-EndTag : goal.returns-in-EndTag
returns-in-EndTag c =
    let is = arm c.in-Some.item c.in_ok-interrupts.field-0 EndTag c.in_ok-interrupts.ensures c.in-EndTag.is in
    end_tag _ _ _ _ _ _ c.loop-item.invariant c.in-Some.ensures.steps _ is c.ok_or.ensures.value

pub returns : goal.returns
returns c = no_end _ _ _ _ c.loop-item.invariant c.in-None.ensures.steps.0
