-- Numbers that bytes write in digits.
use Rattle.std.specs.Prelude.{ℕ, ◌-◌, ◌&&◌, nat_le, List, [], ◌∷◌, Option, Some, None, if◌then◌else◌}
use Rattle.std.specs.Int.Digits.{number_from_digits}
use Rattle.hex.specs.Hex.{hex_digit_value}
use Rattle.ar_space.specs.declared.integer_width.IntegerWidth.{IntegerWidth}
use Rattle.aml_convert.specs.declared.digits.Base.{Base}
use Rattle.aml_convert.specs.declared.digits.Base.TheVariants.{Decimal, Hexadecimal}
use Rattle.aml_convert.specs.Integers.{truncated}

abbrev pub base_of : Base → ℕ
base_of Decimal = 10
base_of Hexadecimal = 16

-- the value of a digit; hexadecimal digits are of either case
abbrev pub digit_value : Base → ℕ → Option ℕ
digit_value Decimal c = if nat_le 48 c && nat_le c 57 then Some (c - 48) else None
digit_value Hexadecimal c = hex_digit_value c

-- the values of the digits that bytes begin with
abbrev pub digit_and : Option ℕ → List ℕ → List ℕ
digit_and None digits = []
digit_and (Some d) digits = d ∷ digits

unfoldable pub leading_digits : Base → List ℕ → List ℕ
leading_digits base [] = []
leading_digits base (c ∷ cs) = digit_and (digit_value base c) (leading_digits base cs)

-- the number of the digits that bytes begin with, as an integer keeps it; 0 where there are none
unfoldable pub leading_number : IntegerWidth → Base → List ℕ → ℕ
leading_number w base cs = truncated w (number_from_digits (base_of base) (leading_digits base cs))
