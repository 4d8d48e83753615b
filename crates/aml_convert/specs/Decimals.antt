-- Binary coded decimal: each hexadecimal digit of a number is a decimal one (ACPI 6.5, 19.6.137, and FromBCD).
use Rattle.std.specs.Prelude.{ℕ, ◌*◌, ◌^◌, nat_lt, Bool, Ok, Err, if◌then◌else◌}
use Rattle.std.specs.List.{list_all}
use Rattle.std.specs.Int.Digits.{digits_of, number_from_digits}
use Rattle.ar_space.specs.Outcome.{Outcome}
use Rattle.ar_space.specs.declared.integer_width.IntegerWidth.{IntegerWidth}
use Rattle.ar_space.specs.declared.refusal.Refusal.TheVariants.{Value}
use Rattle.ar_space.specs.declared.refusal.ValueFault.TheVariants.{WrongType}
use Rattle.aml_convert.specs.Integers.{bytes_of}

-- the number that the digits of another, in one base, spell in a second base
abbrev pub respelled : ℕ → ℕ → ℕ → ℕ
respelled from to n = number_from_digits to (digits_of from n)

-- whether each hexadecimal digit is a decimal one
abbrev pub is_coded_decimal : ℕ → Bool
is_coded_decimal n = list_all (λ d. nat_lt d 10) (digits_of 16 n)

-- FromBCD
abbrev pub decoded_decimal : ℕ → Outcome ℕ
decoded_decimal n = if is_coded_decimal n then Ok (respelled 16 10 n) else Err (Value WrongType)

-- ToBCD: an integer has two digits for each of its bytes
abbrev pub coded_decimal : IntegerWidth → ℕ → Outcome ℕ
coded_decimal w n = if nat_lt n (10 ^ (2 * bytes_of w)) then Ok (respelled 10 16 n) else Err (Value WrongType)
