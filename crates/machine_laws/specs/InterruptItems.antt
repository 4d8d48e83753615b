-- The resource items that mean something here, by their first bytes (ACPI 6.5, 6.4.2 and 6.4.3).
use Rattle.std.specs.Prelude.{◌≡◌, ◌<◌, ◌+◌, ◌*◌, ℕ, List, [], ◌∷◌, ◌++◌, length, Bool, true, false}
use Rattle.acpi_resources.specs.declared.form.Form.{Form}
use Rattle.acpi_resources.specs.declared.form.Form.TheVariants.{Small, Extended}
use Rattle.acpi_resources.specs.Items.{ResourceItem}
use Rattle.acpi_resources.specs.Numbers.{numbers_of_mask, numbers_of_table}
use Rattle.acpi_resources.specs.Records.{InterruptDescriptor}

-- an item, by its first byte and the bytes that its length counts
abbrev pub item_of : ℕ → List ℕ → ResourceItem
item_of tag body = record { tag = tag; body = body }

abbrev pub interrupts_of : Form → ℕ → List ℕ → Bool → InterruptDescriptor
interrupts_of form flags numbers has_source = record { form = form; flags = flags; numbers = numbers; has_source = has_source }

-- Which items name interrupts, and how. The IRQ descriptor has a mask in two bytes, the low one first, and flags;
-- without flags they are 1, which is edge-triggered, active-high and exclusive (6.4.2.1). The Extended Interrupt
-- descriptor has flags, a count, so many numbers of four bytes, and behind them a resource source, if there is one
-- (6.4.3.6).
pub data IsInterrupts : ResourceItem → InterruptDescriptor → Type 0 where
  irq_without_flags : (low high : ℕ) → IsInterrupts (item_of 0x22 (low ∷ high ∷ [])) (interrupts_of Small 1 (numbers_of_mask (low + 256 * high)) false)
  irq : (low high flags : ℕ) → IsInterrupts (item_of 0x23 (low ∷ high ∷ flags ∷ [])) (interrupts_of Small flags (numbers_of_mask (low + 256 * high)) false)
  extended : (flags count : ℕ) (numbers : List ℕ) → length numbers ≡ 4 * count → IsInterrupts (item_of 0x89 (flags ∷ count ∷ numbers)) (interrupts_of Extended flags (numbers_of_table numbers) false)
  sourced : (flags count first : ℕ) (numbers source : List ℕ) → length numbers ≡ 4 * count → IsInterrupts (item_of 0x89 (flags ∷ count ∷ numbers ++ first ∷ source)) (interrupts_of Extended flags (numbers_of_table numbers) true)

-- an Extended Interrupt descriptor that is too short for its flags, its count or its numbers
pub data IsShort : ResourceItem → Type 0 where
  no_flags : IsShort (item_of 0x89 [])
  no_count : (flags : ℕ) → IsShort (item_of 0x89 (flags ∷ []))
  no_numbers : (flags count : ℕ) (bytes : List ℕ) → length bytes < 4 * count → IsShort (item_of 0x89 (flags ∷ count ∷ bytes))

-- the first bytes of the items that begin and end dependent functions (6.4.2.3 and 6.4.2.4)
pub data IsDependent : ℕ → Type 0 where
  start : IsDependent 0x30
  start_with_priority : IsDependent 0x31
  end : IsDependent 0x38

-- the first bytes of all items that mean something here
pub data HasMeaning : ℕ → Type 0 where
  without_flags : HasMeaning 0x22
  with_flags : HasMeaning 0x23
  extended_interrupt : HasMeaning 0x89
  end_tag : HasMeaning 0x79
  dependent : (tag : ℕ) → IsDependent tag → HasMeaning tag
