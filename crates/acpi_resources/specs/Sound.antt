-- What holds of each interrupt descriptor and of each offer.
use Rattle.std.specs.Prelude.{◌≡◌, ◌<◌, ◌≤◌, false, length, All}
use Rattle.std.specs.List.Sorted.{IsStrictlyIncreasing}
use Rattle.acpi_resources.specs.declared.form.Form.TheVariants.{Small}
use Rattle.acpi_resources.specs.FlagByte.{is_edge, polarity_of}
use Rattle.acpi_resources.specs.Records.{InterruptDescriptor, InterruptOffer}

pub record IsInterruptDescriptor (d : InterruptDescriptor) : Type 0 where
  -- a count is one byte, and a mask has 16 bits
  pub at_most : length d.numbers ≤ 255
  pub in_mask : d.form ≡ Small → All (λ n. n < 16) d.numbers

pub record IsOffer (offer : InterruptOffer) : Type 0 where
  pub at_least : 0 < length offer.numbers
  pub at_most : length offer.numbers ≤ 255
  pub ascending : IsStrictlyIncreasing offer.numbers
  pub in_mask : offer.form ≡ Small → All (λ n. n < 16) offer.numbers
  pub level : is_edge offer.form offer.flags ≡ false
  pub signaled : offer.polarity ≡ polarity_of offer.form offer.flags
