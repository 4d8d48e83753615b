-- Fields in a bank of an operation region that a bank register selects (ACPI 6.5, 19.6: BankField).
use Rattle.std.specs.Prelude.{ℕ, List}
use Rattle.ar_space.specs.declared.space.Width.{Width}
use Rattle.ar_space.specs.Accesses.{Accesses}
use Rattle.ar_space.specs.Change.{Change, ◌>>=◌}
use Rattle.aml_objects.specs.declared.entry.FieldUnit.{FieldUnit}
use Rattle.aml_fields.specs.declared.region.Region.{Region}
use Rattle.aml_fields.specs.declared.field_units.Unit.{Unit as Access}
use Rattle.aml_fields.specs.Bits.{field_bits, rest_of_unit, merged}
use Rattle.aml_fields.specs.Regions.{read_unit, write_access, write_whole}
use Rattle.aml_fields.specs.UnitByUnit.{kept}
use Rattle.aml_laws.specs.IndexRegisters.{Register}

-- the accesses of one unit of a region, in the bank that a value of the bank register selects
module _ {S : Type 0} (accesses : Accesses S) (bank : Register) (value : ℕ) (region : Region) where
  -- the value is written to the bank register
  abbrev pub value_written : Change S (Unit {0})
  value_written = write_access accesses bank.at bank.width value

  -- and right behind it the unit is read
  unfoldable pub selected_and_read : Width → Access → Change S ℕ
  selected_and_read width u = do
    selected ← value_written
    read_unit accesses region width u

  -- or it is written, with the bits of a field; where others are kept, they are read so before
  unfoldable pub selected_and_written : FieldUnit → List ℕ → Access → Change S (Unit {0})
  selected_and_written f bytes u = do
    old ← kept f u (selected_and_read f.access u)
    selected ← value_written
    write_whole accesses region f.access u.offset (merged (rest_of_unit f.update f.access old) u.first (field_bits bytes u.position u.count))
