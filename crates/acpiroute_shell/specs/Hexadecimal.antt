-- Numbers in hexadecimal digits.
use Rattle.std.specs.Prelude.{ℕ, true, List}
use Rattle.std.specs.Fmt.{radix_digits}

-- upper case, without zeros in front
abbrev pub hexadecimal : ℕ → List ℕ
hexadecimal n = radix_digits 16 true n
