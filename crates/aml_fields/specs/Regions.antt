-- Accesses of a field of an operation region, unit by unit (ACPI 6.5, 5.5.2.4 and 19.6.46).
use Rattle.std.specs.Prelude.{ℕ, ◌+◌, ◌^◌, ◌==◌, nat_lt, Bool, List, [], ◌∷◌, ◌++◌, drop, Option, Some, None, Result, Ok, Err, if◌then◌else◌}
use Rattle.ar_space.specs.declared.space.Width.{Width}
use Rattle.ar_space.specs.declared.space.Place.{Place}
use Rattle.ar_space.specs.declared.space.Place.TheVariants as place
use Rattle.ar_space.specs.declared.refusal.SpaceFault.{SpaceFault}
use Rattle.ar_space.specs.declared.refusal.Refusal.TheVariants as refusal
use Rattle.ar_space.specs.declared.refusal.FieldFault.TheVariants.{RegionLimit}
use Rattle.ar_space.specs.Accesses.{Accesses, byte_count, bit_count}
use Rattle.ar_space.specs.Outcome.{Outcome}
use Rattle.ar_space.specs.Change.{Change, give, settle, ◌>>=◌, ◌>>◌}
use Rattle.aml_objects.specs.declared.entry.FieldUnit.{FieldUnit}
use Rattle.aml_fields.specs.declared.region.AddressSpace.{AddressSpace}
use Rattle.aml_fields.specs.declared.region.AddressSpace.TheVariants.{Memory, Io, Pci}
use Rattle.aml_fields.specs.declared.region.Region.{Region}
use Rattle.aml_fields.specs.declared.field_units.Unit.{Unit as Access}
use Rattle.aml_fields.specs.Bits.{field_bits, rest_of_unit, merged}
use Rattle.aml_fields.specs.Units.{units_of}
use Rattle.aml_fields.specs.UnitByUnit.{bits_read, kept, write_units}

-- the place with a number, in an address space that has it
abbrev pub place_in : AddressSpace → ℕ → Option Place
place_in Memory n = if nat_lt n (2 ^ 64) then Some (place.Memory n) else None
place_in Io n = if nat_lt n (2 ^ 16) then Some (place.Io n) else None
place_in (Pci seg bus dev func) n = if nat_lt n 4096 then Some (place.Pci seg bus dev func n) else None

abbrev pub or_limit : Option Place → Outcome Place
or_limit None = Err (refusal.Field RegionLimit)
or_limit (Some p) = Ok p

-- the place of a unit: it lies within the region, and begins in the address space
unfoldable pub unit_place : Region → Width → ℕ → Outcome Place
unit_place r w offset =
    if nat_lt r.length (offset + byte_count w)
    then Err (refusal.Field RegionLimit)
    else or_limit (place_in r.space (r.offset + offset))

-- the answer of a space, as a refusal where it is a fault
abbrev pub faulted : {A : Type 0} → Result A SpaceFault → Outcome A
faulted (Ok a) = Ok a
faulted (Err fault) = Err (refusal.Space fault)

module _ {S : Type 0} (accesses : Accesses S) where
  unfoldable pub read_access : Place → Width → Change S ℕ
  read_access p w s = (faulted (accesses.reads s p w).0, (accesses.reads s p w).1)

  unfoldable pub read_unit : Region → Width → Access → Change S ℕ
  read_unit r w u = do
    p ← settle (unit_place r w u.offset)
    read_access p w

  -- a read of a field
  abbrev pub read_field : Region → FieldUnit → Change S (List ℕ)
  read_field r f = bits_read (read_unit r f.access) f

  unfoldable pub write_access : Place → Width → ℕ → Change S (Unit {0})
  write_access p w value s = (faulted (accesses.writes s p w value).0, (accesses.writes s p w value).1)

  -- one unit is written with a number
  unfoldable pub write_whole : Region → Width → ℕ → ℕ → Change S (Unit {0})
  write_whole r w offset value = do
    p ← settle (unit_place r w offset)
    write_access p w value

  -- one unit is written: as a whole, or merged with what it holds, ones or zeros
  unfoldable pub write_unit : Region → FieldUnit → List ℕ → Access → Change S (Unit {0})
  write_unit r f source u = do
    p ← settle (unit_place r f.access u.offset)
    old ← kept f u (read_access p f.access)
    write_access p f.access (merged (rest_of_unit f.update f.access old) u.first (field_bits source u.position u.count))

  -- a write of a field: the bits of some bytes, cut or with zeros behind them
  abbrev pub write_field : Region → FieldUnit → List ℕ → Change S (Unit {0})
  write_field r f source = write_units (write_unit r f source) (units_of f.bit_offset f.bits f.access)
