-- Resource descriptors (ACPI 6.5, 6.4): what an item means.
use Rattle.std.specs.Prelude.{ℕ, ◌*◌, ◌==◌, ◌||◌, false, nat_le, nat_lt, if◌then◌else◌, List, [], ◌∷◌, length, take, slice_index, Ok, Err}
use Rattle.byteorder.specs.Endian.{little_number}
use Rattle.ar_space.specs.Outcome.{Outcome}
use Rattle.ar_space.specs.declared.refusal.Refusal.TheVariants.{Resource}
use Rattle.ar_space.specs.declared.refusal.ResourceFault.TheVariants.{Descriptor as NoDescriptor}
use Rattle.acpi_resources.specs.declared.form.Form.TheVariants.{Small, Extended}
use Rattle.acpi_resources.specs.declared.descriptor.Descriptor.{Descriptor}
use Rattle.acpi_resources.specs.declared.descriptor.Descriptor.TheVariants.{Interrupts, DependentFunctions, EndTag, Other}
use Rattle.acpi_resources.specs.Items.{ResourceItem}
use Rattle.acpi_resources.specs.Numbers.{numbers_of_mask, numbers_of_table}
use Rattle.acpi_resources.specs.Records.{InterruptDescriptor}

-- the IRQ descriptor: a mask of 16 bits, and then its flags (ACPI 6.5, 6.4.2.1)
abbrev pub irq_descriptor : List ℕ → ℕ → InterruptDescriptor
irq_descriptor body flags = record { form = Small; flags = flags; numbers = numbers_of_mask (little_number 2 body); has_source = false }

-- the Extended Interrupt descriptor: flags, a count, so many numbers, and the resource source (ACPI 6.5, 6.4.3.6)
unfoldable pub extended_interrupt_descriptor : List ℕ → Outcome Descriptor
extended_interrupt_descriptor (flags ∷ count ∷ bytes) =
    if nat_le (4 * count) (length bytes)
    then Ok (Interrupts (record { form = Extended; flags = flags; numbers = numbers_of_table (take (4 * count) bytes); has_source = nat_lt (4 * count) (length bytes) }))
    else Err (Resource (NoDescriptor 0x89))
extended_interrupt_descriptor (flags ∷ []) = Err (Resource (NoDescriptor 0x89))
extended_interrupt_descriptor [] = Err (Resource (NoDescriptor 0x89))

-- what an item means, by its first byte. An IRQ descriptor without flags is edge-triggered, active-high and exclusive.
unfoldable pub descriptor_of : ResourceItem → Outcome Descriptor
descriptor_of item =
    if item.tag == 0x22 then Ok (Interrupts (irq_descriptor item.body 0x01))
    else (if item.tag == 0x23 then Ok (Interrupts (irq_descriptor item.body (slice_index item.body 2)))
    else (if item.tag == 0x89 then extended_interrupt_descriptor item.body
    else (if item.tag == 0x79 then Ok EndTag
    else (if ((item.tag == 0x30) || (item.tag == 0x31)) || (item.tag == 0x38) then Ok DependentFunctions
    else Ok (Other item.tag)))))
