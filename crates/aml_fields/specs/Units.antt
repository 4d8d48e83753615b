-- The units of a field (ACPI 6.5, 19.6.46): aligned pieces of the width of its accesses, from the one that holds its first
-- bit to the one that holds its last.
use Rattle.std.specs.Prelude.{ℕ, zero, suc, ◌+◌, ◌-◌, ◌*◌, ◌/◌, ◌==◌, min, max, List, [], ◌∷◌, if◌then◌else◌}
use Rattle.ar_space.specs.declared.space.Width.{Width}
use Rattle.ar_space.specs.Accesses.{bit_count}
use Rattle.aml_fields.specs.declared.field_units.Unit.{Unit}

-- the k-th unit from the region's start: its offset in bytes, the bits of it that are the field's, and where in the field
-- they begin
abbrev pub unit_at : ℕ → ℕ → Width → ℕ → Unit
unit_at bit_offset bits w k = record {
  offset = k * bit_count w / 8;
  first = bit_offset - k * bit_count w;
  count = min (k * bit_count w + bit_count w) (bit_offset + bits) - max (k * bit_count w) bit_offset;
  position = k * bit_count w - bit_offset;
}

-- so many units from the k-th on
unfoldable pub units_from : ℕ → ℕ → Width → ℕ → ℕ → List Unit
units_from bit_offset bits w k zero = []
units_from bit_offset bits w k (suc n) = unit_at bit_offset bits w k ∷ units_from bit_offset bits w (k + 1) n

-- how many units hold the bits up to one
abbrev pub units_up_to : ℕ → Width → ℕ
units_up_to end w = (end + bit_count w - 1) / bit_count w

-- the units of a field; one of no bits has none
abbrev pub units_of : ℕ → ℕ → Width → List Unit
units_of bit_offset bits w = if bits == 0 then [] else units_from bit_offset bits w (bit_offset / bit_count w) (units_up_to (bit_offset + bits) w - bit_offset / bit_count w)
