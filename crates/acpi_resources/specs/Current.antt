-- What a link device is set to, by the value of its _CRS (ACPI 6.5, 6.2.2).
use Rattle.std.specs.Prelude.{ℕ, List, [], ◌∷◌, ◌++◌, Ok, Err}
use Rattle.ar_space.specs.Outcome.{Outcome, ◌>>=◌}
use Rattle.ar_space.specs.declared.refusal.Refusal.TheVariants.{Resource}
use Rattle.ar_space.specs.declared.refusal.ResourceFault.TheVariants.{NoEnd}
use Rattle.acpi_resources.specs.declared.descriptor.Descriptor.{Descriptor}
use Rattle.acpi_resources.specs.declared.descriptor.Descriptor.TheVariants.{Interrupts, DependentFunctions, EndTag, Other}
use Rattle.acpi_resources.specs.Items.{ResourceItem, items_of}
use Rattle.acpi_resources.specs.Numbers.{set_of}
use Rattle.acpi_resources.specs.Descriptors.{descriptor_of}

-- the numbers of a descriptor and of those behind it; nothing is behind the end tag
unfoldable pub numbers_from : Outcome (List ℕ) → Descriptor → Outcome (List ℕ)
numbers_from behind (Interrupts d) = behind >>= (λ numbers. Ok (d.numbers ++ numbers))
numbers_from behind DependentFunctions = behind
numbers_from behind EndTag = Ok []
numbers_from behind (Other tag) = behind

-- all numbers of the interrupt descriptors up to the end tag, whatever their flags
unfoldable pub all_numbers : List ResourceItem → Outcome (List ℕ)
all_numbers [] = Err (Resource NoEnd)
all_numbers (item ∷ items) = descriptor_of item >>= (λ d. numbers_from (all_numbers items) d)

unfoldable pub current_of : List ℕ → Outcome (List ℕ)
current_of bytes = all_numbers (items_of bytes) >>= (λ numbers. Ok (set_of numbers))
