-- Fields behind an index field and a data field: their units are accessed one by one, lowest first (ACPI 6.5, 19.6: IndexField).
use Rattle.std.specs.Prelude.{ℕ, ◌-◌, ◌*◌, ◌==◌, min, List, [], ◌∷◌, length, drop, replicate, Bool, true, false, if◌then◌else◌}
use Rattle.ar_space.specs.Accesses.{Accesses, bit_count}
use Rattle.ar_space.specs.Change.{give, settle, ◌>>=◌}
use Rattle.aml_objects.specs.declared.entry.FieldUnit.{FieldUnit}
use Rattle.aml_objects.specs.declared.entry.UpdateRule.{UpdateRule}
use Rattle.aml_objects.specs.declared.entry.UpdateRule.TheVariants.{Preserve, WriteAsOnes, WriteAsZeros}
use Rattle.aml_fields.specs.declared.field_units.Unit.{Unit as Access}
use Rattle.aml_fields.specs.Bits.{bits_from, bits_of, byte_count, bytes_within, extended, field_bits, merged, put, rest_of_unit}
use Rattle.aml_fields.specs.Units.{units_of}
use Rattle.aml_fields.specs.UnitByUnit.{kept}
use Rattle.aml_world.specs.declared.fields.regions.RegionField.{RegionField}
use Rattle.aml_world.specs.state.Run.{Run, lift}
use Rattle.aml_world.specs.fields.Regions.{field_declared, integer_only}
use Rattle.aml_world.specs.fields.Fields.{unit_bytes, unit_of, index_unit, region_bits, region_written}
use Rattle.aml_meaning.specs.declared.flow.Flow.{Flow}
use Rattle.aml_meaning.specs.declared.flow.Flow.TheVariants as flow
use Rattle.aml_meaning.specs.Tasks.{Task}
use Rattle.aml_meaning.specs.Calls.{value_of_call}
use Rattle.aml_frames.specs.declared.indexed.IndexedField.{IndexedField}
use Rattle.aml_frames.specs.declared.indexed.UnitReads.{UnitReads}
use Rattle.aml_frames.specs.declared.indexed.UnitWrites.{UnitWrites}
use Rattle.aml_frames.specs.declared.indexed.UnitsLeft.{UnitsLeft}
use Rattle.aml_frames.specs.declared.indexed.UnitsLeft.TheVariants as units_left
use Rattle.aml_frames.specs.declared.uses.Doing.{Doing}
use Rattle.aml_frames.specs.declared.uses.Doing.TheVariants as doing
use Rattle.aml_frames.specs.declared.uses.Reading.{Reading}
use Rattle.aml_frames.specs.Uses.{asking, read_as}

-- what of a unit lies within 64 bits and within so many bits of the field: all of it, where the unit is one of the field's
abbrev pub unit_within : ℕ → Access → Access
unit_within bits u = record {
  offset = u.offset;
  first = min u.first 64;
  count = min u.count (min (64 - min u.first 64) (bits - min u.position bits));
  position = min u.position bits;
}

-- how many bits of the bytes of a field are read; more than any field has
abbrev pub bits_within : List ℕ → ℕ
bits_within bytes = 8 * min (length bytes) 536870912

-- the bits of a unit, put over those of the field
abbrev pub put_bits : Access → ℕ → List ℕ → List ℕ
put_bits u n bytes = bytes_within (length bytes) (put u.position (extended u.count (drop u.first (bits_from n 0 64))) (bits_of bytes))

unfoldable pub put_unit : List ℕ → Access → ℕ → List ℕ
put_unit bytes u n = put_bits (unit_within (bits_within bytes) u) n bytes

-- what a unit is written with, where it holds a number
abbrev pub merged_bits : FieldUnit → List ℕ → Access → ℕ → ℕ
merged_bits f bytes u old = merged (rest_of_unit f.update f.access old) u.first (field_bits bytes u.position u.count)

unfoldable pub merged_unit : FieldUnit → List ℕ → Access → ℕ → ℕ
merged_unit f bytes u old = merged_bits f bytes (unit_within f.bits u) old

abbrev pub field_at : ℕ → RegionField → RegionField → FieldUnit → IndexedField
field_at calls index behind f = record { calls = calls; index = index; behind = behind; field = f }

abbrev pub field_accessed : UnitsLeft → IndexedField
field_accessed (units_left.Reads x) = x.field
field_accessed (units_left.Writes x) = x.field

-- whether a write keeps bits of a unit, where the field isn't all of it
abbrev pub keeps : UpdateRule → Bool
keeps Preserve = true
keeps WriteAsOnes = false
keeps WriteAsZeros = false

abbrev pub is_kept : FieldUnit → Access → Bool
is_kept f u = if u.count == bit_count f.access then false else keeps f.update

module _ {S : Type 0} (accesses : Accesses S) (ev : Task → Run S Flow) where
  abbrev pub unit_read : IndexedField → Access → Run S ℕ
  unit_read x u = index_unit accesses (asking accesses ev x.calls) x.index x.behind x.field.access u

  -- the offset of a unit is written to the index field
  abbrev pub offset_written : IndexedField → Access → Run S (Unit {0})
  offset_written x u = region_written accesses (asking accesses ev x.calls) x.index (unit_bytes u.offset)

  -- the units that are left are read, over the bits that were read, and then all is read as a value
  unfoldable pub reads_left : IndexedField → Reading → List ℕ → List Access → Run S Flow
  reads_left x r bytes [] = read_as r x.field.bits bytes
  reads_left x r bytes (u ∷ us) = do
    n ← unit_read x u
    reads_left x r (put_unit bytes u n) us

  -- a unit is written, where it holds a number
  unfoldable pub written_over : IndexedField → List ℕ → Access → ℕ → Run S (Unit {0})
  written_over x bytes u old = do
    chosen ← offset_written x u
    region_written accesses (asking accesses ev x.calls) x.behind (unit_bytes (merged_unit x.field bytes u old))

  -- the units that are left are written
  unfoldable pub writes_left : IndexedField → List ℕ → List Access → Run S Flow
  writes_left x bytes [] = give flow.Next
  writes_left x bytes (u ∷ us) = do
    old ← kept x.field u (unit_read x u)
    done ← written_over x bytes u old
    writes_left x bytes us

  -- all units of a field
  abbrev pub units_done : IndexedField → Doing → Run S Flow
  units_done x (doing.Read r) = reads_left x r (replicate (byte_count x.field.bits) 0) (units_of x.field.bit_offset x.field.bits x.field.access)
  units_done x (doing.Write bytes) = writes_left x bytes (units_of x.field.bit_offset x.field.bits x.field.access)

  -- the fields with these numbers of declarations are looked up
  abbrev pub indexed_done : ℕ → ℕ → ℕ → FieldUnit → Doing → Run S Flow
  indexed_done calls i d f x = do
    index ← lift (field_declared i)
    behind ← lift (field_declared d)
    units_done (field_at calls index behind f) x

  -- ---- an access whose units are done in part

  abbrev pub reads_done : UnitReads → Run S Flow
  reads_done x = reads_left x.field x.reading x.bytes.items x.left

  abbrev pub writes_done : UnitWrites → Run S Flow
  writes_done x = writes_left x.field x.bytes x.left

  -- a unit that was read holds a number
  abbrev pub unit_met : UnitsLeft → Access → ℕ → Run S Flow
  unit_met (units_left.Reads x) u n = reads_left x.field x.reading (put_unit x.bytes.items u n) x.left
  unit_met (units_left.Writes x) u n = do
    done ← written_over x.field x.bytes u n
    writes_done x

  -- the data field was read, and gave a flow
  abbrev pub unit_given : UnitsLeft → Access → Flow → Run S Flow
  unit_given l u f = do
    n ← settle (integer_only (value_of_call f))
    unit_met l u n

  -- a unit is read whose offset was written to the index field
  abbrev pub unit_behind : UnitsLeft → Access → Run S Flow
  unit_behind l u = do
    bytes ← region_bits accesses (asking accesses ev (field_accessed l).calls) (field_accessed l).behind
    unit_met l u (unit_of (field_accessed l).field.access bytes)

  -- a unit is read
  abbrev pub unit_chosen : UnitsLeft → Access → Run S Flow
  unit_chosen l u = do
    chosen ← offset_written (field_accessed l) u
    unit_behind l u

  -- a unit whose offset was written to the index field is written with a number
  abbrev pub unit_merged : UnitWrites → ℕ → Run S Flow
  unit_merged x n = do
    done ← region_written accesses (asking accesses ev x.field.calls) x.field.behind (unit_bytes n)
    writes_done x
