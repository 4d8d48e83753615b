-- The integers that values convert to as operands of operators (ACPI 6.5, 19.3.5.7).
use Rattle.std.specs.Prelude.{◌≡◌, ◌<◌, ◌+◌, ◌*◌, ℕ, List, [], ◌∷◌, length}
use Rattle.aml_grammar.specs.declared.opcode.Opcode.{Opcode}
use Rattle.aml_grammar.specs.declared.opcode.Opcode.TheVariants as opcodes

-- the number of some bytes, the lowest first
abbrev pub lowest_first : List ℕ → ℕ
lowest_first [] = 0
lowest_first (b ∷ bs) = b + 256 * lowest_first bs

-- a character is a hexadecimal digit of a value: 0 to 9, A to F or a to f
pub data IsDigit : ℕ → ℕ → Type 0 where
  figure : (d : ℕ) → d < 10 → IsDigit (48 + d) d
  upper : (d : ℕ) → d < 6 → IsDigit (65 + d) (10 + d)
  lower : (d : ℕ) → d < 6 → IsDigit (97 + d) (10 + d)

-- characters that are digits of these values
pub data AreDigits : List ℕ → List ℕ → Type 0 where
  none : AreDigits [] []
  more : (c d : ℕ) (cs ds : List ℕ) → IsDigit c d → AreDigits cs ds → AreDigits (c ∷ cs) (d ∷ ds)

-- behind the digits that count stands nothing, or no digit, or they are as many as count at most
pub data EndsDigits (most : ℕ) (digits : List ℕ) : List ℕ → Type 0 where
  at_end : EndsDigits most digits []
  at_other : (c : ℕ) (cs : List ℕ) → ((d : ℕ) → IsDigit c d → ⊥) → EndsDigits most digits (c ∷ cs)
  at_most : (rest : List ℕ) → length digits ≡ most → EndsDigits most digits rest

-- the operators that take two integers and store what they give
pub data TakesIntegers : Opcode → Type 0 where
  of_add : TakesIntegers opcodes.Add
  of_subtract : TakesIntegers opcodes.Subtract
  of_multiply : TakesIntegers opcodes.Multiply
  of_mod : TakesIntegers opcodes.Mod
  of_and : TakesIntegers opcodes.And
  of_nand : TakesIntegers opcodes.Nand
  of_or : TakesIntegers opcodes.Or
  of_nor : TakesIntegers opcodes.Nor
  of_xor : TakesIntegers opcodes.Xor
  of_shift_left : TakesIntegers opcodes.ShiftLeft
  of_shift_right : TakesIntegers opcodes.ShiftRight
