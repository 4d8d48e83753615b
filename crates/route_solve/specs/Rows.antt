-- Rows of bits: which links offer an interrupt.
use Rattle.std.specs.Prelude.{◌≡◌, ◌↔◌, ◌<◌, ◌+◌, ◌*◌, ◌/◌, ◌%◌, ℕ, List, [], cond, length, slice_index_or}
use Rattle.std.specs.Int.{bit_at}
use Rattle.route_model.specs.Placement.{Offers}
use Rattle.route_numbers.specs.Numbers.{has}

-- bit i of a row is bit i modulo 64 of word i / 64, lowest bit first
abbrev pub HasBit : List ℕ → ℕ → Type 0
HasBit row i = bit_at (slice_index_or row (i / 64) 0) (i % 64) ≡ 1

-- a row has bit l exactly where link l offers an interrupt
abbrev pub IsRow : List (List ℕ) → ℕ → List ℕ → Type 0
IsRow offers n row = (l : ℕ) → HasBit row l ↔ Offers offers l n

-- the same bits where the rows, of four words each, stand one after the other
abbrev pub bit_of : List ℕ → ℕ → ℕ → ℕ
bit_of words i l = bit_at (slice_index_or words (4 * i + l / 64) 0) (l % 64)

-- the rows of so many interrupts that have the bits of the links that were added
pub record AreRows (places : List (List ℕ)) (count : ℕ) (words : List ℕ) : Type 0 where
  pub long : length words ≡ 4 * count
  pub has : (l i : ℕ) → l < 256 → i < count → Offers places l i → bit_of words i l ≡ 1
  pub only : (l i : ℕ) → l < 256 → i < count → bit_of words i l ≡ 1 → Offers places l i

-- the same with the interrupts by their numbers
pub record HasRows (offers : List (List ℕ)) (numbers words : List ℕ) : Type 0 where
  pub long : length words ≡ 4 * length numbers
  pub bits : (l i : ℕ) → l < 256 → i < length numbers → bit_of words i l ≡ cond (has (slice_index_or offers l []) (slice_index_or numbers i 0)) 1 0
