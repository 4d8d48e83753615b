-- What an interrupt descriptor offers of what it says (ACPI 6.5, 6.2.12, 6.4.2.1 and 6.4.3.6).
use Rattle.std.specs.Prelude.{◌≡◌, ◌↔◌, ℕ, Contains}
use Rattle.std.specs.List.Sorted.{IsStrictlyIncreasing}
use Rattle.acpi_resources.specs.declared.exclusives.Exclusives.{Exclusives}
use Rattle.acpi_resources.specs.declared.exclusives.Exclusives.TheVariants.{Taken}
use Rattle.acpi_resources.specs.declared.form.Polarity.TheVariants.{High, Low}
use Rattle.acpi_resources.specs.Records.{InterruptDescriptor, InterruptOffer}

-- interrupts with this bit of sharing may be offered: shared ones, and exclusive ones where these are taken
pub data MayBeOffered : Exclusives → ℕ → Type 0 where
  shared : (exclusives : Exclusives) → MayBeOffered exclusives 1
  exclusive : MayBeOffered Taken 0

-- an offer of the interrupts of a descriptor with this bit of polarity: each of them once, ascending, and no other
pub record IsOfferOf (d : InterruptDescriptor) (polarity : ℕ) (offer : InterruptOffer) : Type 0 where
  pub same_numbers : (n : ℕ) → Contains offer.numbers n ↔ Contains d.numbers n
  pub ascending : IsStrictlyIncreasing offer.numbers
  pub same_form : offer.form ≡ d.form
  pub same_flags : offer.flags ≡ d.flags
  pub low : polarity ≡ 1 → offer.polarity ≡ Low
  pub high : polarity ≡ 0 → offer.polarity ≡ High
