-- What the tests leave is sound.
use Rattle.std.proofs.Common.{refl, ap, ◌∙◌, subst, rules}
use Rattle.acpi_resources.specs.Numbers.{set_of}
use Rattle.acpi_resources.specs.Records.{InterruptDescriptor}
use Rattle.acpi_resources.specs.Sound.{IsInterruptDescriptor}
use Rattle.acpi_resources.proofs.Counts.{offer_is_sound}
use Rattle.acpi_resources.proofs.possible_resources.offer_of_one.Goals as goal

pub new-requires : goal.new-requires
new-requires c =
    offer_is_sound c.args.interrupts.now _
    (subst IsInterruptDescriptor c.interrupts.view_is c.interrupts.invariant)
    (c.form-form.ensures ∙ ap (λ (d : InterruptDescriptor). d.form) c.interrupts.view_is)
    (c.in_ok-numbers.ensures.value ∙ ap (λ (d : InterruptDescriptor). set_of d.numbers) c.interrupts.view_is)
    c.in_ok-numbers.ensures.ascending
    (search rules)
    (search rules)
    refl
