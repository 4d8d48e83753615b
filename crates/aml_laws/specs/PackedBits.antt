-- Bits as bytes and as integers: the lowest first, eight of them in a byte (ACPI 6.5, 19.6: Field, CreateField).
use Rattle.std.specs.Prelude.{◌≡◌, ◌<◌, ◌≤◌, ◌+◌, ◌*◌, ◌/◌, ◌%◌, ◌^◌, ℕ, List, Bool, false, length, get_or, if◌then◌else◌}
use Rattle.std.specs.Int.{bit_at}
use Rattle.aml_laws.specs.Plain.{AreBytes}

-- one bit of some bytes: 0 behind the last one
abbrev pub bit_of : List ℕ → ℕ → ℕ
bit_of bytes k = bit_at (get_or bytes (k / 8) 0) (k % 8)

-- one bit of a list of bits
abbrev pub bit_in : List Bool → ℕ → ℕ
bit_in bits k = if get_or bits k false then 1 else 0

-- as many bytes as so many bits need, with zeros above these in the last one
pub record ArePackedBits (count : ℕ) (bytes : List ℕ) : Type 0 where
  pub enough : count ≤ 8 * length bytes
  pub no_more : 8 * length bytes < count + 8
  pub zeros_above : (k : ℕ) → count ≤ k → bit_of bytes k ≡ 0
  pub are_bytes : AreBytes bytes

-- the bytes that so many bits are: bit k stands at bit k mod 8 of byte k / 8
pub record Packs (count : ℕ) (bits : ℕ → ℕ) (bytes : List ℕ) : Type 0 where
  pub packed : ArePackedBits count bytes
  pub each : (k : ℕ) → k < count → bit_of bytes k ≡ bits k

-- the integer that so many bits are, with no bit above them
pub record IsIntegerOf (count : ℕ) (bits : ℕ → ℕ) (n : ℕ) : Type 0 where
  pub fits : n < 2 ^ count
  pub each : (k : ℕ) → k < count → bit_at n k ≡ bits k
