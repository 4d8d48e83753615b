-- Fields behind an index register and a data register (ACPI 6.5, 19.6.63: IndexField).
use Rattle.std.specs.Prelude.{◌≡◌, ℕ, ◌*◌, ◌/◌, ◌%◌, ◌^◌, ◌==◌, List, Some, Ok, if◌then◌else◌}
use Rattle.ar_space.specs.declared.space.Width.{Width}
use Rattle.ar_space.specs.declared.space.Place.{Place}
use Rattle.ar_space.specs.Accesses.{Accesses, bit_count}
use Rattle.ar_space.specs.Change.{Change, give, ◌>>◌, ◌>>=◌}
use Rattle.aml_path.specs.declared.segment.Seg.{Seg}
use Rattle.aml_objects.specs.declared.entry.Entry.{Entry}
use Rattle.aml_objects.specs.declared.entry.FieldSource.TheVariants as sources
use Rattle.aml_objects.specs.declared.entry.FieldUnit.{FieldUnit}
use Rattle.aml_objects.specs.declared.entry.NamedObject.TheVariants as object
use Rattle.aml_fields.specs.declared.region.Region.{Region}
use Rattle.aml_fields.specs.declared.field_units.Unit.{Unit as Access}
use Rattle.aml_fields.specs.Bits.{field_bits, rest_of_unit, merged}
use Rattle.aml_fields.specs.Regions.{unit_place, read_access, write_access}
use Rattle.aml_namespace.specs.Namespace.{numbered}
use Rattle.aml_world.specs.declared.fields.regions.RegionField.{RegionField}
use Rattle.aml_world.specs.state.State.{State}
use Rattle.aml_laws.specs.PlainRegions.{IsPlainRegion}

-- a register: its place, and how wide it is
pub record Register : Type 0 where
  pub at : Place
  pub width : Width

-- the field unit with a number is one whole unit of a region in SystemMemory or SystemIO, which is this register
pub record IsRegister {S : Type 0} (w : State S) (number : ℕ) (register : Register) : Type 0 where
  pub entry : List Seg × Entry
  pub stands : numbered number w.names.map ≡ Some entry
  pub field : RegionField
  pub declared : entry.1.object ≡ object.FieldUnit field.unit
  pub source : field.unit.source ≡ sources.Region field.region
  pub region : Region
  pub plain : IsPlainRegion w field.region region
  pub width : field.unit.access ≡ register.width
  pub units_before : ℕ
  pub begins : field.unit.bit_offset ≡ units_before * bit_count register.width
  pub whole : field.unit.bits ≡ bit_count register.width
  pub placed : unit_place region register.width (field.unit.bit_offset / 8) ≡ Ok register.at

-- a unit that wasn't read, with bits of a field in it
abbrev pub unit_value : FieldUnit → List ℕ → Access → ℕ
unit_value f bytes u = merged (rest_of_unit f.update f.access 0) u.first (field_bits bytes u.position u.count)

-- the accesses of one unit
module _ {S : Type 0} (accesses : Accesses S) (index behind : Register) where
  -- the unit's offset is written to the index register, cut to its width
  abbrev pub unit_chosen : Access → Change S (Unit {0})
  unit_chosen u = write_access accesses index.at index.width (u.offset % 2 ^ bit_count index.width)

  -- and then the data register is read
  unfoldable pub chosen_and_read : Access → Change S ℕ
  chosen_and_read u = do
    unit_chosen u
    value ← read_access accesses behind.at behind.width
    give (value % 2 ^ bit_count behind.width)

  -- or it is written, with the bits of a field and what its update rule puts elsewhere
  unfoldable pub chosen_and_written : FieldUnit → List ℕ → Access → Change S (Unit {0})
  chosen_and_written f bytes u = unit_chosen u >> write_access accesses behind.at behind.width (unit_value f bytes u % 2 ^ bit_count behind.width)

  -- what the data register holds, read where the field covers a part of the unit alone, and so keeps the others
  abbrev pub unit_kept : FieldUnit → Access → Change S ℕ
  unit_kept f u s = if u.count == bit_count f.access then (Ok 0, s) else chosen_and_read u s

  -- and then written, the bits of the field among those that are kept
  unfoldable pub kept_and_written : FieldUnit → List ℕ → Access → Change S (Unit {0})
  kept_and_written f bytes u = do
    old ← unit_kept f u
    unit_chosen u >> write_access accesses behind.at behind.width (merged old u.first (field_bits bytes u.position u.count) % 2 ^ bit_count behind.width)
