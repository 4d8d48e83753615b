-- Fields of a bank: the bank is selected before each access of a unit, lowest first (ACPI 6.5, 19.6: BankField).
use Rattle.std.specs.Prelude.{ℕ, List, [], ◌∷◌, replicate}
use Rattle.ar_space.specs.Accesses.{Accesses}
use Rattle.ar_space.specs.Change.{give, ◌>>=◌}
use Rattle.aml_objects.specs.declared.entry.FieldUnit.{FieldUnit}
use Rattle.aml_fields.specs.declared.region.Region.{Region}
use Rattle.aml_fields.specs.declared.field_units.Unit.{Unit as Access}
use Rattle.aml_fields.specs.Bits.{byte_count}
use Rattle.aml_fields.specs.Regions.{read_unit, write_whole}
use Rattle.aml_fields.specs.Units.{units_of}
use Rattle.aml_fields.specs.UnitByUnit.{kept}
use Rattle.aml_world.specs.state.State.{on_space}
use Rattle.aml_world.specs.state.Run.{Run, lift}
use Rattle.aml_world.specs.fields.Fields.{bank_selected, bank_unit}
use Rattle.aml_meaning.specs.declared.flow.Flow.{Flow}
use Rattle.aml_meaning.specs.declared.flow.Flow.TheVariants as flow
use Rattle.aml_meaning.specs.Tasks.{Task}
use Rattle.aml_frames.specs.declared.banked.BankedField.{BankedField}
use Rattle.aml_frames.specs.declared.banked.BankReads.{BankReads}
use Rattle.aml_frames.specs.declared.banked.BankWrites.{BankWrites}
use Rattle.aml_frames.specs.declared.banked.BanksLeft.{BanksLeft}
use Rattle.aml_frames.specs.declared.banked.BanksLeft.TheVariants as banks_left
use Rattle.aml_frames.specs.declared.banked.Selector.{Selector}
use Rattle.aml_frames.specs.declared.uses.Doing.{Doing}
use Rattle.aml_frames.specs.declared.uses.Doing.TheVariants as doing
use Rattle.aml_frames.specs.declared.uses.Reading.{Reading}
use Rattle.aml_frames.specs.Indexed.{put_unit, merged_unit}
use Rattle.aml_frames.specs.Uses.{asking, read_as}

abbrev pub field_at : ℕ → Selector → Region → FieldUnit → BankedField
field_at calls bank r f = record { calls = calls; bank = bank; region = r; field = f }

abbrev pub field_accessed : BanksLeft → BankedField
field_accessed (banks_left.Reads x) = x.field
field_accessed (banks_left.Writes x) = x.field

module _ {S : Type 0} (accesses : Accesses S) (ev : Task → Run S Flow) where
  -- the bank is selected
  abbrev pub selected : BankedField → Run S (Unit {0})
  selected x = bank_selected accesses (asking accesses ev x.calls) x.bank.field x.bank.value

  abbrev pub unit_read : BankedField → Access → Run S ℕ
  unit_read x u = bank_unit accesses (asking accesses ev x.calls) x.bank.field x.bank.value x.region x.field.access u

  -- the units that are left are read, over the bits that were read, and then all is read as a value
  unfoldable pub reads_left : BankedField → Reading → List ℕ → List Access → Run S Flow
  reads_left x r bytes [] = read_as r x.field.bits bytes
  reads_left x r bytes (u ∷ us) = do
    n ← unit_read x u
    reads_left x r (put_unit bytes u n) us

  -- a unit is written, where it holds a number
  unfoldable pub written_over : BankedField → List ℕ → Access → ℕ → Run S (Unit {0})
  written_over x bytes u old = do
    chosen ← selected x
    lift (on_space (write_whole accesses x.region x.field.access u.offset (merged_unit x.field bytes u old)))

  -- the units that are left are written
  unfoldable pub writes_left : BankedField → List ℕ → List Access → Run S Flow
  writes_left x bytes [] = give flow.Next
  writes_left x bytes (u ∷ us) = do
    old ← kept x.field u (unit_read x u)
    done ← written_over x bytes u old
    writes_left x bytes us

  -- all units of a field
  abbrev pub units_done : BankedField → Doing → Run S Flow
  units_done x (doing.Read r) = reads_left x r (replicate (byte_count x.field.bits) 0) (units_of x.field.bit_offset x.field.bits x.field.access)
  units_done x (doing.Write bytes) = writes_left x bytes (units_of x.field.bit_offset x.field.bits x.field.access)

  -- ---- an access whose units are done in part

  abbrev pub reads_done : BankReads → Run S Flow
  reads_done x = reads_left x.field x.reading x.bytes.items x.left

  abbrev pub writes_done : BankWrites → Run S Flow
  writes_done x = writes_left x.field x.bytes x.left

  -- a unit that was read holds a number
  abbrev pub unit_met : BanksLeft → Access → ℕ → Run S Flow
  unit_met (banks_left.Reads x) u n = reads_left x.field x.reading (put_unit x.bytes.items u n) x.left
  unit_met (banks_left.Writes x) u n = do
    done ← written_over x.field x.bytes u n
    writes_done x

  -- a unit is read whose bank was selected
  abbrev pub unit_behind : BanksLeft → Access → Run S Flow
  unit_behind l u = do
    n ← lift (on_space (read_unit accesses (field_accessed l).region (field_accessed l).field.access u))
    unit_met l u n

  -- a unit is read
  abbrev pub unit_chosen : BanksLeft → Access → Run S Flow
  unit_chosen l u = do
    chosen ← selected (field_accessed l)
    unit_behind l u

  -- the unit with an offset, whose bank was selected, is written with a number
  abbrev pub unit_merged : BankWrites → ℕ → ℕ → Run S Flow
  unit_merged x offset n = do
    done ← lift (on_space (write_whole accesses x.field.region x.field.field.access offset n))
    writes_done x
