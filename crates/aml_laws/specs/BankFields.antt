-- Fields in a bank of an operation region, whatever field selects the bank (ACPI 6.5, 19.6: BankField).
use Rattle.std.specs.Prelude.{◌≡◌, ℕ, List, Some}
use Rattle.ar_space.specs.declared.space.Width.{Width}
use Rattle.ar_space.specs.Accesses.{Accesses}
use Rattle.ar_space.specs.Change.{Change, ◌>>=◌}
use Rattle.aml_path.specs.declared.segment.Seg.{Seg}
use Rattle.aml_objects.specs.declared.entry.Entry.{Entry}
use Rattle.aml_objects.specs.declared.entry.FieldSource.TheVariants as sources
use Rattle.aml_objects.specs.declared.entry.FieldUnit.{FieldUnit}
use Rattle.aml_objects.specs.declared.entry.NamedObject.TheVariants as object
use Rattle.aml_fields.specs.declared.region.Region.{Region}
use Rattle.aml_fields.specs.declared.field_units.Unit.{Unit as Access}
use Rattle.aml_fields.specs.Bits.{bits_from, bytes_within, field_bits, rest_of_unit, merged}
use Rattle.aml_fields.specs.Regions.{read_unit, write_field, write_whole}
use Rattle.aml_fields.specs.UnitByUnit.{kept}
use Rattle.aml_namespace.specs.Namespace.{numbered}
use Rattle.aml_world.specs.declared.fields.regions.RegionField.{RegionField}
use Rattle.aml_world.specs.state.State.{State}

-- the declaration with a number is this field unit, which lies in the operation region with the number that it says
pub record IsFieldUnit {S : Type 0} (w : State S) (number : ℕ) (field : RegionField) : Type 0 where
  pub entry : List Seg × Entry
  pub stands : numbered number w.names.map ≡ Some entry
  pub declared : entry.1.object ≡ object.FieldUnit field.unit
  pub source : field.unit.source ≡ sources.Region field.region

-- a number as eight bytes
abbrev pub eight_bytes : ℕ → List ℕ
eight_bytes n = bytes_within 8 (bits_from n 0 64)

-- the accesses of one unit of a region, in the bank that a value of a field unit of another one selects
module _ {S : Type 0} (accesses : Accesses S) (at : Region) (bank : FieldUnit) (value : ℕ) (region : Region) where
  -- the value is written to the bank field
  abbrev pub bank_written_to : Change S (Unit {0})
  bank_written_to = write_field accesses at bank (eight_bytes value)

  -- and right behind it the unit is read
  unfoldable pub read_in_its_bank : Width → Access → Change S ℕ
  read_in_its_bank width u = do
    selected ← bank_written_to
    read_unit accesses region width u

  -- or it is written, with the bits of a field; where others are kept, they are read so before
  unfoldable pub written_in_its_bank : FieldUnit → List ℕ → Access → Change S (Unit {0})
  written_in_its_bank f bytes u = do
    old ← kept f u (read_in_its_bank f.access u)
    selected ← bank_written_to
    write_whole accesses region f.access u.offset (merged (rest_of_unit f.update f.access old) u.first (field_bits bytes u.position u.count))
