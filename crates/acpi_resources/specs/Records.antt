-- What an interrupt descriptor says, and what a link device offers.
use Rattle.std.specs.Prelude.{ℕ, Bool, List}
use Rattle.acpi_resources.specs.declared.form.Form.{Form}
use Rattle.acpi_resources.specs.declared.form.Polarity.{Polarity}
use Rattle.acpi_resources.specs.FlagByte.{polarity_of}

-- an interrupt descriptor: its numbers as they are listed, and whether a resource source follows them
pub record InterruptDescriptor : Type 0 where
  pub form : Form
  pub flags : ℕ
  pub numbers : List ℕ
  pub has_source : Bool

-- the interrupts that a link device may be set to: the set of their numbers, ascending, and how they are signaled
pub record InterruptOffer : Type 0 where
  pub numbers : List ℕ
  pub form : Form
  pub polarity : Polarity
  pub flags : ℕ

-- an offer of these numbers, by a descriptor of this form with these flags
abbrev pub interrupt_offer : List ℕ → Form → ℕ → InterruptOffer
interrupt_offer numbers form flags = record { numbers = numbers; form = form; polarity = polarity_of form flags; flags = flags }
