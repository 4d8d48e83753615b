-- The flag bytes of the two interrupt descriptors (ACPI 6.5, 6.4.2.1 and 6.4.3.6).
use Rattle.std.specs.Prelude.{ℕ, ◌^◌, ◌==◌, Bool, if◌then◌else◌}
use Rattle.std.specs.Int.RustNames.{bit_and}
use Rattle.acpi_resources.specs.declared.form.Form.{Form}
use Rattle.acpi_resources.specs.declared.form.Form.TheVariants.{Small, Extended}
use Rattle.acpi_resources.specs.declared.form.Polarity.{Polarity}
use Rattle.acpi_resources.specs.declared.form.Polarity.TheVariants.{Low, High}

-- whether the bit of a number is set
abbrev pub has_bit : ℕ → ℕ → Bool
has_bit number bit = bit_and number (2 ^ bit) == 2 ^ bit

-- edge-triggered, and not level-triggered
abbrev pub is_edge : Form → ℕ → Bool
is_edge Small flags = has_bit flags 0
is_edge Extended flags = has_bit flags 1

-- shared, and not exclusive
abbrev pub is_shared : Form → ℕ → Bool
is_shared Small flags = has_bit flags 4
is_shared Extended flags = has_bit flags 3

-- active-low or active-high
abbrev pub polarity_of : Form → ℕ → Polarity
polarity_of Small flags = if has_bit flags 3 then Low else High
polarity_of Extended flags = if has_bit flags 2 then Low else High
