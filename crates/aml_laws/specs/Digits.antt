-- Characters that are hexadecimal digits, as an integer's string has them (ACPI 6.5, 19.3.5.7).
use Rattle.std.specs.Prelude.{ℕ, nat_le, nat_lt, ◌&&◌, ◌||◌, Bool}

-- 0 to 9, or A to F
abbrev pub is_upper_digit : ℕ → Bool
is_upper_digit c = (nat_le 48 c && nat_lt c 58) || (nat_le 65 c && nat_lt c 71)
