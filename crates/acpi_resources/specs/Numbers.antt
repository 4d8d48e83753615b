-- The numbers of interrupts, as the interrupt descriptors write them (ACPI 6.5, 6.4.2.1 and 6.4.3.6), and as a set.
use Rattle.std.specs.Prelude.{ℕ, List, [], ◌∷◌, filter}
use Rattle.std.specs.Ordering.{nat_cmp}
use Rattle.std.specs.List.{range_with_len}
use Rattle.std.specs.BTreeSet.{insert_key}
use Rattle.byteorder.specs.Endian.{little_number}
use Rattle.acpi_resources.specs.FlagByte.{has_bit}

-- bit n of a mask of 16 bits is interrupt n
unfoldable pub numbers_of_mask : ℕ → List ℕ
numbers_of_mask mask = filter (λ n. has_bit mask n) (range_with_len 0 16)

-- a table of numbers of 32 bits, the lowest byte first
unfoldable pub numbers_of_table : List ℕ → List ℕ
numbers_of_table (a ∷ b ∷ c ∷ d ∷ bytes) = little_number 4 (a ∷ b ∷ c ∷ d ∷ []) ∷ numbers_of_table bytes
numbers_of_table (a ∷ b ∷ c ∷ []) = []
numbers_of_table (a ∷ b ∷ []) = []
numbers_of_table (a ∷ []) = []
numbers_of_table [] = []

-- a set of numbers, ascending, with more numbers in it
unfoldable pub with_numbers : List ℕ → List ℕ → List ℕ
with_numbers set [] = set
with_numbers set (n ∷ numbers) = with_numbers (insert_key nat_cmp set n) numbers

-- the set of the numbers of a list: ascending, each once
abbrev pub set_of : List ℕ → List ℕ
set_of numbers = with_numbers [] numbers
