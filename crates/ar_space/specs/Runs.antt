-- Runs of bytes: put into a map from an address on, read from there, and read as a number.
use Rattle.std.specs.Prelude.{ℕ, zero, suc, ◌+◌, ◌*◌, ◌/◌, ◌%◌, List, [], ◌∷◌, Option, Some, option_and_then}
use Rattle.std.specs.Option.{option_map, option_map_or}
use Rattle.std.specs.FinMap as map
use Rattle.std.specs.Ordering.{nat_cmp}

-- the map with bytes put from an address on, each over an earlier one
unfoldable pub with_bytes : map.FinMap nat_cmp ℕ → ℕ → List ℕ → map.FinMap nat_cmp ℕ
with_bytes m address [] = m
with_bytes m address (byte ∷ bytes) = with_bytes (map.insert m address byte) (address + 1) bytes

-- the bytes from an address on: so many, or those before the first that doesn't stand
abbrev pub run_from : (ℕ → Option ℕ) → ℕ → ℕ → List ℕ
run_from byte address zero = []
run_from byte address (suc count) = option_map_or (λ first. first ∷ run_from byte (address + 1) count) (byte address) []

-- the number that so many bytes from an address on make, the lowest first: none where one of them doesn't stand
abbrev pub number_from : (ℕ → Option ℕ) → ℕ → ℕ → Option ℕ
number_from byte address zero = Some 0
number_from byte address (suc count) = option_and_then (λ low. option_map (λ high. low + 256 * high) (number_from byte (address + 1) count)) (byte address)

-- the lowest bytes of a value, the lowest first
abbrev pub low_bytes : ℕ → ℕ → List ℕ
low_bytes zero value = []
low_bytes (suc count) value = value % 256 ∷ low_bytes count (value / 256)
