-- The strings and buffers that values convert to (ACPI 6.5, 19.3.5.7 and 19.6: ToDecimalString, ToHexString, ToInteger).
use Rattle.std.specs.Prelude.{◌<◌, ◌+◌, ◌/◌, ◌%◌, ℕ, List, [], ◌∷◌, ◌++◌, map}
use Rattle.std.specs.Int.Digits.{digits_of}
use Rattle.aml_laws.specs.IntegersOfValues.{IsDigit}

-- a character is the upper-case hexadecimal digit of a value
pub data IsUpperDigit : ℕ → ℕ → Type 0 where
  figure : (d : ℕ) → d < 10 → IsUpperDigit (48 + d) d
  letter : (d : ℕ) → d < 6 → IsUpperDigit (65 + d) (10 + d)

-- a text has two digits for each of some bytes, the higher one first, and blanks between them
pub data SpellsBytes : List ℕ → List ℕ → Type 0 where
  none : SpellsBytes [] []
  one : (b h l : ℕ) → IsUpperDigit h (b / 16) → IsUpperDigit l (b % 16) → SpellsBytes (b ∷ []) (h ∷ l ∷ [])
  more : (b h l c : ℕ) (bytes text : List ℕ) → IsUpperDigit h (b / 16) → IsUpperDigit l (b % 16) → SpellsBytes (c ∷ bytes) text → SpellsBytes (b ∷ c ∷ bytes) (h ∷ l ∷ 32 ∷ text)

-- a text doesn't begin with a hexadecimal digit
pub data BeginsWithout : List ℕ → Type 0 where
  nothing : BeginsWithout []
  other : (c : ℕ) (text : List ℕ) → ((d : ℕ) → IsDigit c d → ⊥) → BeginsWithout (c ∷ text)

-- texts of bytes, one behind another, with commas between them
pub data SpellsListed (Spells : ℕ → List ℕ → Type 0) : List ℕ → List ℕ → Type 0 where
  no_bytes : SpellsListed Spells [] []
  last_byte : (b : ℕ) (text : List ℕ) → Spells b text → SpellsListed Spells (b ∷ []) text
  further_bytes : (b c : ℕ) (bytes text rest : List ℕ) → Spells b text → SpellsListed Spells (c ∷ bytes) rest → SpellsListed Spells (b ∷ c ∷ bytes) (text ++ 44 ∷ rest)

-- a byte as `0x` and two upper-case digits, and as its decimal digits
pub data SpellsPrefixed : ℕ → List ℕ → Type 0 where
  two_digits : (b h l : ℕ) → IsUpperDigit h (b / 16) → IsUpperDigit l (b % 16) → SpellsPrefixed b (48 ∷ 120 ∷ h ∷ l ∷ [])

pub data SpellsDecimal : ℕ → List ℕ → Type 0 where
  digit_0 : SpellsDecimal 0 (48 ∷ [])
  digits : (n : ℕ) → 0 < n → SpellsDecimal n (map (λ d. 48 + d) (digits_of 10 n))
