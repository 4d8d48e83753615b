-- The units of a field: one for each aligned piece of its region that it touches (ACPI 6.5, 19.6.46).
use Rattle.std.specs.Prelude.{◌≡◌, ◌<◌, ◌≤◌, ◌+◌, ◌*◌, ◌%◌, ℕ, List, [], ◌∷◌}
use Rattle.ar_space.specs.declared.space.Width.{Width}
use Rattle.ar_space.specs.Accesses.{byte_count, bit_count}
use Rattle.aml_fields.specs.declared.field_units.Unit.{Unit as Access}

-- a bit of a region is one of so many, from one on
abbrev pub IsAmong : ℕ → ℕ → ℕ → Type 0
IsAmong first count k = (first ≤ k) × (k < first + count)

-- a unit holds those bits of a field that lie in its aligned piece of the region: one at least, all of them, and no others; and it knows
-- which bit of the field is the first of them
pub record HoldsItsBits (bit_offset bits : ℕ) (w : Width) (u : Access) : Type 0 where
  pub some : 0 < u.count
  pub all : (k : ℕ) → IsAmong bit_offset bits k → IsAmong (u.offset * 8) (bit_count w) k → IsAmong (u.offset * 8 + u.first) u.count k
  pub alone : (k : ℕ) → IsAmong (u.offset * 8 + u.first) u.count k → IsAmong bit_offset bits k × IsAmong (u.offset * 8) (bit_count w) k
  pub position : bit_offset + u.position ≡ u.offset * 8 + u.first

-- units of the pieces from a byte of the region on, one for each piece, up to the end of the field
abbrev pub TouchedFrom : ℕ → ℕ → Width → ℕ → List Access → Type 0
TouchedFrom bit_offset bits w offset [] = bit_offset + bits ≤ offset * 8
TouchedFrom bit_offset bits w offset (u ∷ us) = (u.offset ≡ offset) × HoldsItsBits bit_offset bits w u × TouchedFrom bit_offset bits w (offset + byte_count w) us

-- from the piece on that holds the first bit of the field
pub record TouchedInTurn (bit_offset bits : ℕ) (w : Width) (units : List Access) : Type 0 where
  pub offset : ℕ
  pub aligned : offset % byte_count w ≡ 0
  pub begins : IsAmong (offset * 8) (bit_count w) bit_offset
  pub each : TouchedFrom bit_offset bits w offset units
