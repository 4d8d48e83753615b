-- The numbers and bytes that words of the machine text are.
use Rattle.std.specs.Prelude.{ℕ, ◌+◌, ◌*◌, ◌&&◌, nat_le, nat_lt, List, [], ◌∷◌, length, Option, Some, None, Result, Ok, Err, option_and_then, if◌then◌else◌}
use Rattle.hex.specs.Hex.{hex_digit_value, decode_of}

-- the `?` of options
infixl 10 ◌>>=◌
abbrev ◌>>=◌ : {A B : Type 0} → Option A → (A → Option B) → Option B
m >>= f = option_and_then f m

-- the value of hexadecimal digits, after those that gave n
unfoldable pub number_from : ℕ → List ℕ → Option ℕ
number_from n [] = Some n
number_from n (c ∷ cs) = do
  d ← hex_digit_value c
  number_from (n * 16 + d) cs

-- 1 to 16 digits, of a number that is at most `most`
unfoldable pub number : ℕ → List ℕ → Option ℕ
number most w = if nat_lt 0 (length w) && nat_le (length w) 16 then (do
  n ← number_from 0 w
  if nat_le n most then Some n else None) else None

-- pairs of digits, at least one
abbrev pub decoded : {E : Type 0} → Result (List ℕ) E → Option (List ℕ)
decoded (Ok []) = None
decoded (Ok (b ∷ bs)) = Some (b ∷ bs)
decoded (Err e) = None

unfoldable pub word_bytes : List ℕ → Option (List ℕ)
word_bytes w = decoded (decode_of w)

-- the only byte, if there is one, or else others
abbrev pub only_or : Option ℕ → List ℕ → List ℕ
only_or (Some byte) others = byte ∷ []
only_or None others = others
