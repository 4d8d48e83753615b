-- Bits of bytes and of numbers, the lowest first.
use Rattle.std.specs.Prelude.{ℕ, zero, suc, ◌+◌, ◌*◌, ◌/◌, ◌-◌, ◌^◌, ◌==◌, Bool, false, if◌then◌else◌, List, [], ◌∷◌, ◌++◌, length, take, drop, replicate}
use Rattle.std.specs.List.{flat_map}
use Rattle.std.specs.Int.{bit_at}
use Rattle.ar_space.specs.declared.space.Width.{Width}
use Rattle.ar_space.specs.Accesses.{bit_count}
use Rattle.aml_objects.specs.declared.entry.UpdateRule.{UpdateRule}
use Rattle.aml_objects.specs.declared.entry.UpdateRule.TheVariants.{Preserve, WriteAsOnes, WriteAsZeros}

-- one bit of a number
abbrev pub bit : ℕ → ℕ → Bool
bit n i = bit_at n i == 1

-- so many bits of a number, from one on
unfoldable pub bits_from : ℕ → ℕ → ℕ → List Bool
bits_from n i zero = []
bits_from n i (suc count) = bit n i ∷ bits_from n (i + 1) count

-- the number that bits are
unfoldable pub number_of : List Bool → ℕ
number_of [] = 0
number_of (b ∷ bs) = (if b then 1 else 0) + 2 * number_of bs

-- the bits of bytes
unfoldable pub bits_of : List ℕ → List Bool
bits_of bytes = flat_map (λ b. bits_from b 0 8) bytes

-- so many bits: cut, or with zeros behind them
abbrev pub extended : ℕ → List Bool → List Bool
extended count bits = take count bits ++ replicate (count - length bits) false

-- bits in place of those from one on
abbrev pub put : ℕ → List Bool → List Bool → List Bool
put to new old = take to old ++ new ++ drop (to + length new) old

-- bits as bytes, with zeros up to a whole byte
unfoldable pub bytes_within : ℕ → List Bool → List ℕ
bytes_within zero bits = []
bytes_within (suc n) bits = number_of (take 8 bits) ∷ bytes_within n (drop 8 bits)

abbrev pub byte_count : ℕ → ℕ
byte_count bits = (bits + 7) / 8

abbrev pub packed : List Bool → List ℕ
packed bits = bytes_within (byte_count (length bits)) bits

-- so many bits of bytes, from one on; those past the end are 0
abbrev pub field_bits : List ℕ → ℕ → ℕ → List Bool
field_bits bytes offset count = extended count (drop offset (bits_of bytes))

-- what a unit is written with where the field isn't: what it was, ones, or zeros
abbrev pub rest_of_unit : UpdateRule → Width → ℕ → ℕ
rest_of_unit Preserve width old = old
rest_of_unit WriteAsOnes width old = 2 ^ bit_count width - 1
rest_of_unit WriteAsZeros width old = 0

-- a unit, of at most 64 bits, with bits of the field in it
abbrev pub merged : ℕ → ℕ → List Bool → ℕ
merged rest first new = number_of (put first new (bits_from rest 0 64))
