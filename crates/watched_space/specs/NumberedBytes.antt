-- Bytes by number, in ascending order, that are 0 until one is written.
use Rattle.std.specs.Prelude.{◌≡◌, ℕ, ◌==◌, ◌<◌, ◌≤◌, nat_lt, Bool, true, false, List, [], ◌∷◌, length, slice_index_or, Option, Some, None, if◌then◌else◌}
use Rattle.std.specs.Coded.{Coded, coded×, coded_list, coded_ℕ}

-- a number, and its byte
abbrev pub Numbered : Type 0
Numbered = List (ℕ × ℕ)

abbrev pub numbered_code : Coded Numbered
numbered_code = coded_list (coded× coded_ℕ coded_ℕ)

-- the byte with a number
abbrev pub byte_of : Numbered → ℕ → Option ℕ
byte_of [] number = None
byte_of ((k, b) ∷ rest) number = if k == number then Some b else byte_of rest number

-- with a byte over an earlier one, or before the first with a greater number
abbrev pub with_byte : Numbered → ℕ → ℕ → Numbered
with_byte [] number byte = (number, byte) ∷ []
with_byte ((k, b) ∷ rest) number byte =
    if k == number then (number, byte) ∷ rest else (if nat_lt number k then (number, byte) ∷ (k, b) ∷ rest else (k, b) ∷ with_byte rest number byte)

-- a byte that is asked for: 0 where it wasn't before, and then it stands; none where 4,096 others do
abbrev pub read_known : Numbered → ℕ → Option ℕ → Option ℕ × Numbered
read_known bytes number (Some byte) = (Some byte, bytes)
read_known bytes number None = if nat_lt (length bytes) 4096 then (Some 0, with_byte bytes number 0) else (None, bytes)

abbrev pub read_zero : Numbered → ℕ → Option ℕ × Numbered
read_zero bytes number = read_known bytes number (byte_of bytes number)

-- a byte that is written, and whether there was room
abbrev pub written_known : Numbered → ℕ → ℕ → Option ℕ → Bool × Numbered
written_known bytes number byte (Some before) = (true, with_byte bytes number byte)
written_known bytes number byte None = if nat_lt (length bytes) 4096 then (true, with_byte bytes number byte) else (false, bytes)

abbrev pub written_zero : Numbered → ℕ → ℕ → Bool × Numbered
written_zero bytes number byte = written_known bytes number byte (byte_of bytes number)

-- ---- where a number stands

abbrev pub number_at : Numbered → ℕ → ℕ
number_at bytes i = let entry = slice_index_or bytes i (0, 0) in entry.0

-- each number is greater than those before it
abbrev pub IsAscending : Numbered → Type 0
IsAscending bytes = (i j : ℕ) → i < j → j < length bytes → number_at bytes i < number_at bytes j

-- the entry at place i has the number
pub record IsAt (bytes : Numbered) (number i : ℕ) : Type 0 where
  pub in_range : i < length bytes
  pub is : number_at bytes i ≡ number

-- it would stand at place i: the smaller ones before it, and the greater ones from there on
pub record IsGapFor (bytes : Numbered) (number i : ℕ) : Type 0 where
  pub in_range : i ≤ length bytes
  pub smaller_before : (j : ℕ) → j < i → number_at bytes j < number
  pub greater_after : (j : ℕ) → i ≤ j → j < length bytes → number < number_at bytes j
