-- The numbers of an interrupt descriptor, as the code holds them: a mask or a table.
use Rattle.std.specs.Prelude.{ℕ, Bool, List}
use Rattle.acpi_resources.specs.declared.form.Form.{Form}
use Rattle.acpi_resources.specs.declared.form.Form.TheVariants.{Small, Extended}
use Rattle.acpi_resources.specs.declared.interrupts.Listed.{Listed}
use Rattle.acpi_resources.specs.declared.interrupts.Listed.TheVariants.{Mask, Table}
use Rattle.acpi_resources.specs.Records.{InterruptDescriptor}
use Rattle.acpi_resources.specs.Numbers.{numbers_of_mask, numbers_of_table}

abbrev pub form_of : Listed → Form
form_of (Mask mask) = Small
form_of (Table bytes) = Extended

abbrev pub listed_numbers : Listed → List ℕ
listed_numbers (Mask mask) = numbers_of_mask mask
listed_numbers (Table bytes) = numbers_of_table bytes.now

-- an interrupt descriptor, as the code holds it
abbrev pub interrupt_descriptor : ℕ → Listed → Bool → InterruptDescriptor
interrupt_descriptor flags listed has_source = record { form = form_of listed; flags = flags; numbers = listed_numbers listed; has_source = has_source }
