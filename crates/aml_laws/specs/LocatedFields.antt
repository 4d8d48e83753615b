-- Fields in a bank, and behind an index field and a data field, wherever the regions of these lie (ACPI 6.5, 19.6: BankField, IndexField).
use Rattle.std.specs.Prelude.{ℕ, List}
use Rattle.ar_space.specs.declared.space.Width.{Width}
use Rattle.ar_space.specs.Accesses.{Accesses, bit_count}
use Rattle.ar_space.specs.Change.{give, ◌>>=◌}
use Rattle.aml_path.specs.declared.segment.Seg.{Seg}
use Rattle.aml_objects.specs.declared.entry.Field.TheVariants as field
use Rattle.aml_objects.specs.declared.entry.FieldUnit.{FieldUnit}
use Rattle.aml_fields.specs.declared.region.Region.{Region}
use Rattle.aml_fields.specs.declared.field_units.Unit.{Unit as Access}
use Rattle.aml_fields.specs.Bits.{field_bits, number_of, rest_of_unit, merged}
use Rattle.aml_fields.specs.Regions.{read_unit, write_whole}
use Rattle.aml_fields.specs.UnitByUnit.{kept}
use Rattle.aml_world.specs.state.State.{on_space}
use Rattle.aml_world.specs.state.Run.{Run, lift}
use Rattle.aml_world.specs.fields.Fields.{bits_in, written_in}
use Rattle.aml_laws.specs.BankFields.{eight_bytes}

module _ {S : Type 0} (accesses : Accesses S) (call : List Seg → Run S ℕ) where
  -- a number is written to a field
  abbrev pub number_written : FieldUnit → ℕ → Run S (Unit {0})
  number_written f n = written_in accesses call (field.Unit f) (eight_bytes n)

  -- the accesses of one unit of a region, in the bank that a value of a bank field selects
  module _ (bank : FieldUnit) (value : ℕ) (region : Region) where
    -- the value is written to the bank field, and right behind it the unit is read
    unfoldable pub read_behind_bank_field : Width → Access → Run S ℕ
    read_behind_bank_field width u = do
      selected ← number_written bank value
      lift (on_space (read_unit accesses region width u))

    -- or it is written, with the bits of a field; where others are kept, they are read so before
    unfoldable pub written_behind_bank_field : FieldUnit → List ℕ → Access → Run S (Unit {0})
    written_behind_bank_field f bytes u = do
      old ← kept f u (read_behind_bank_field f.access u)
      selected ← number_written bank value
      lift (on_space (write_whole accesses region f.access u.offset (merged (rest_of_unit f.update f.access old) u.first (field_bits bytes u.position u.count))))

  -- the accesses of one unit behind an index field and a data field
  module _ (index behind : FieldUnit) where
    -- the unit's offset is written to the index field, and right behind it the data field is read: its lowest bits are the unit
    unfoldable pub read_behind_index_field : Width → Access → Run S ℕ
    read_behind_index_field width u = do
      chosen ← number_written index u.offset
      bytes ← bits_in accesses call (field.Unit behind)
      give (number_of (field_bits bytes 0 (bit_count width)))

    -- or it is written, with the bits of a field; where others are kept, they are read so before
    unfoldable pub written_behind_index_field : FieldUnit → List ℕ → Access → Run S (Unit {0})
    written_behind_index_field f bytes u = do
      old ← kept f u (read_behind_index_field f.access u)
      chosen ← number_written index u.offset
      number_written behind (merged (rest_of_unit f.update f.access old) u.first (field_bits bytes u.position u.count))
