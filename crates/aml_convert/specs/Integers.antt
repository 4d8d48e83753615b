-- Integers of the width that the DSDT's revision gives (ACPI 6.5, 19.3.5).
use Rattle.std.specs.Prelude.{ℕ, ◌-◌, ◌^◌, ◌%◌, Bool, if◌then◌else◌}
use Rattle.ar_space.specs.declared.integer_width.IntegerWidth.{IntegerWidth}
use Rattle.ar_space.specs.declared.integer_width.IntegerWidth.TheVariants.{Bits32, Bits64}

-- how many bits and bytes an integer has
abbrev pub bits_of : IntegerWidth → ℕ
bits_of Bits32 = 32
bits_of Bits64 = 64

abbrev pub bytes_of : IntegerWidth → ℕ
bytes_of Bits32 = 4
bytes_of Bits64 = 8

-- what an integer keeps of a number
abbrev pub truncated : IntegerWidth → ℕ → ℕ
truncated w n = n % 2 ^ bits_of w

-- the integer with all bits set, which is True; False is 0
abbrev pub ones : IntegerWidth → ℕ
ones w = 2 ^ bits_of w - 1

abbrev pub truth : IntegerWidth → Bool → ℕ
truth w b = if b then ones w else 0
