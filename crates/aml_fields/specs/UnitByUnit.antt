-- A field is read and written unit by unit, lowest first (ACPI 6.5, 5.5.2.4 and 19.6.46), whatever the access of a unit is.
use Rattle.std.specs.Prelude.{ℕ, ◌==◌, Bool, List, [], ◌∷◌, ◌++◌, drop, Ok, if◌then◌else◌}
use Rattle.ar_space.specs.Accesses.{bit_count}
use Rattle.ar_space.specs.Change.{Change, give, ◌>>=◌, ◌>>◌}
use Rattle.aml_objects.specs.declared.entry.FieldUnit.{FieldUnit}
use Rattle.aml_objects.specs.declared.entry.UpdateRule.{UpdateRule}
use Rattle.aml_objects.specs.declared.entry.UpdateRule.TheVariants.{Preserve, WriteAsOnes, WriteAsZeros}
use Rattle.aml_fields.specs.declared.field_units.Unit.{Unit as Access}
use Rattle.aml_fields.specs.Bits.{bits_from, extended, packed}
use Rattle.aml_fields.specs.Units.{units_of}

-- read: one unit is read
module _ {H : Type 0} (read : Access → Change H ℕ) where
  -- the bits of the field in each unit
  unfoldable pub read_units : List Access → Change H (List Bool)
  read_units [] = give []
  read_units (u ∷ us) = do
    unit ← read u
    bits ← read_units us
    give (extended u.count (drop u.first (bits_from unit 0 64)) ++ bits)

  -- the bits of a field, as bytes
  unfoldable pub bits_read : FieldUnit → Change H (List ℕ)
  bits_read f = do
    bits ← read_units (units_of f.bit_offset f.bits f.access)
    give (packed bits)

-- write: one unit is written
module _ {H : Type 0} (write : Access → Change H (Unit {0})) where
  unfoldable pub write_units : List Access → Change H (Unit {0})
  write_units [] = give tt
  write_units (u ∷ us) = do
    write u
    write_units us

-- what a unit holds is read where bits of it are kept, and nowhere else
abbrev pub kept_by : {H : Type 0} → UpdateRule → Change H ℕ → Change H ℕ
kept_by Preserve read h = read h
kept_by WriteAsOnes read h = (Ok 0, h)
kept_by WriteAsZeros read h = (Ok 0, h)

unfoldable pub kept : {H : Type 0} → FieldUnit → Access → Change H ℕ → Change H ℕ
kept f u read h = if u.count == bit_count f.access then (Ok 0, h) else kept_by f.update read h
