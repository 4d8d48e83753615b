-- What the units of a field are written with, bit by bit (ACPI 6.5, 19.6.46).
use Rattle.std.specs.Prelude.{◌≡◌, ◌⊎◌, ◌<◌, ◌≤◌, ◌+◌, ◌^◌, ℕ, List, Bool, false, get_or, Result}
use Rattle.ar_space.specs.declared.refusal.SpaceFault.{SpaceFault}
use Rattle.ar_space.specs.declared.space.Width.{Width}
use Rattle.ar_space.specs.declared.space.Place.{Place}
use Rattle.ar_space.specs.Accesses.{Accesses, bit_count}
use Rattle.aml_objects.specs.declared.entry.FieldUnit.{FieldUnit}
use Rattle.aml_fields.specs.declared.field_units.Unit.{Unit as Access}
use Rattle.aml_fields.specs.Bits.{bit, field_bits}

-- what reads are answered with in a register space
abbrev pub Reads : Type 0 → Type 0
Reads S = S → Place → Width → Result ℕ SpaceFault × S

-- the same accesses, but for the reads
abbrev pub with_reads : {S : Type 0} → Accesses S → Reads S → Accesses S
with_reads accesses reads = record { reads = reads; writes = accesses.writes }

-- the bits of the field in a unit are those of the source, each other bit is this one, and there are none above the access
pub record IsFilledWith (other : Bool) (field : FieldUnit) (source : List ℕ) (unit : Access) (value : ℕ) : Type 0 where
  pub inside : (m : ℕ) → m < unit.count → bit value (unit.first + m) ≡ get_or (field_bits source unit.position unit.count) m false
  pub outside : (m : ℕ) → m < bit_count field.access → (m < unit.first) ⊎ (unit.first + unit.count ≤ m) → bit value m ≡ other
  pub fits : value < 2 ^ bit_count field.access

-- the bits of the field in a unit are those of the source, and each other bit is that of an old number; there are none above the
-- access, where the old number has none
pub record IsMergedInto (old : ℕ) (field : FieldUnit) (source : List ℕ) (unit : Access) (value : ℕ) : Type 0 where
  pub inside : (m : ℕ) → m < unit.count → bit value (unit.first + m) ≡ get_or (field_bits source unit.position unit.count) m false
  pub outside : (m : ℕ) → m < bit_count field.access → (m < unit.first) ⊎ (unit.first + unit.count ≤ m) → bit value m ≡ bit old m
  pub fits : old < 2 ^ bit_count field.access → value < 2 ^ bit_count field.access
