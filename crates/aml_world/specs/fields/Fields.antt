-- Fields, read and written (ACPI 6.5, 5.5.2.4 and 19.6: OperationRegion, Field, IndexField, BankField, CreateField). An access of a field of a region
-- asks for the region's address once; a buffer field is bits of its buffer, and makes no access. The source of a write is converted first.
use Rattle.std.specs.Prelude.{ℕ, List, [], ◌∷◌, ◌++◌, Option, Some, None}
use Rattle.ar_space.specs.declared.space.Width.{Width}
use Rattle.ar_space.specs.declared.refusal.Refusal.TheVariants as refusal
use Rattle.ar_space.specs.declared.refusal.EvaluationFault.TheVariants.{SpaceKind}
use Rattle.ar_space.specs.Accesses.{Accesses, bit_count}
use Rattle.ar_space.specs.Change.{give, stop, settle, ◌>>=◌}
use Rattle.aml_path.specs.declared.segment.Seg.{Seg}
use Rattle.aml_objects.specs.declared.value.Value.{Value}
use Rattle.aml_objects.specs.Fields.{bits_of_field}
use Rattle.aml_objects.specs.declared.entry.Bank.{Bank}
use Rattle.aml_objects.specs.declared.entry.Field.{Field}
use Rattle.aml_objects.specs.declared.entry.Field.TheVariants as field
use Rattle.aml_objects.specs.declared.entry.FieldUnit.{FieldUnit}
use Rattle.aml_objects.specs.declared.entry.FieldSource.{FieldSource}
use Rattle.aml_objects.specs.declared.entry.FieldSource.TheVariants as sources
use Rattle.aml_objects.specs.declared.entry.UpdateRule.TheVariants.{WriteAsZeros}
use Rattle.aml_fields.specs.declared.region.AddressSpace.{AddressSpace}
use Rattle.aml_fields.specs.declared.region.AddressSpace.TheVariants as spaces
use Rattle.aml_fields.specs.declared.region.Region.{Region}
use Rattle.aml_fields.specs.declared.field_units.Unit.{Unit as Access}
use Rattle.aml_fields.specs.BufferFields.{read_buffer_field, write_buffer_field}
use Rattle.aml_fields.specs.Bits.{bits_from, bytes_within, field_bits, merged, rest_of_unit}
use Rattle.aml_fields.specs.Units.{units_of}
use Rattle.aml_fields.specs.UnitByUnit.{bits_read, kept, write_units}
use Rattle.aml_fields.specs.Regions.{read_field, read_unit, write_field, write_whole}
use Rattle.aml_world.specs.declared.fields.pci_functions.Sought.TheVariants as sought
use Rattle.aml_world.specs.declared.fields.regions.RegionSpace.{RegionSpace}
use Rattle.aml_world.specs.declared.fields.regions.RegionSpace.TheVariants as kinds
use Rattle.aml_world.specs.declared.fields.regions.RegionField.{RegionField}
use Rattle.aml_world.specs.declared.values.object_type.Referent.{Referent}
use Rattle.aml_world.specs.state.Given as given
use Rattle.aml_world.specs.state.State.{on_objects, on_space}
use Rattle.aml_world.specs.state.Run.{Run, lift}
use Rattle.aml_world.specs.values.Stores.{bytes_in}
use Rattle.aml_world.specs.fields.PciFunctions.{adr, segment_group, base_bus, nearest, pci_function}
use Rattle.aml_world.specs.fields.Bridges.{bridges_above, secondary_bus}
use Rattle.aml_world.specs.fields.Regions.{space_numbered, pci_space, region_declared, field_declared, bank_held, integer_of_bits, value_of_bits, integer_alone, given_of_bits, referent_of_bits}

-- a number as the bytes of a unit, and the unit that bits make, cut or with zeros behind them
abbrev pub unit_bytes : ℕ → List ℕ
unit_bytes n = bytes_within 8 (bits_from n 0 64)

abbrev pub unit_of : Width → List ℕ → ℕ
unit_of w bytes = merged (rest_of_unit WriteAsZeros w 0) 0 (field_bits bytes 0 (bit_count w))

-- accesses: what the register space makes of them; call: the integer that the object at a path answers
module _ {S : Type 0} (accesses : Accesses S) (call : List Seg → Run S ℕ) where
  -- ---- where a region is

  abbrev pub part_in : Seg → Option (List Seg) → Run S ℕ
  part_in s None = give 0
  part_in s (Some p) = call (p ++ s ∷ [])

  -- what the nearest object of a name answers, from a scope on upward; 0 where there is none
  unfoldable pub inherited : Seg → List Seg → Run S ℕ
  inherited s p = do
    near ← lift (nearest (sought.Parent s) p)
    part_in s near

  -- the bus behind a bridge on a bus, and behind bridges one behind another, from the outermost on
  unfoldable pub bus_behind : ℕ → ℕ → List Seg → Run S ℕ
  bus_behind seg bus p = do
    address ← call (p ++ adr ∷ [])
    lift (on_space (secondary_bus accesses seg bus address))

  unfoldable pub bus_behind_all : ℕ → ℕ → List (List Seg) → Run S ℕ
  bus_behind_all seg bus [] = give bus
  bus_behind_all seg bus (p ∷ ps) = do
    behind ← bus_behind seg bus p
    bus_behind_all seg behind ps

  unfoldable pub pci_address : List Seg → Run S AddressSpace
  pci_address scope = do
    p ← lift (pci_function scope)
    bridges ← lift (bridges_above p)
    seg ← inherited segment_group p
    bus ← inherited base_bus p
    behind ← bus_behind_all seg bus bridges
    address ← call (p ++ adr ∷ [])
    settle (pci_space seg behind address)

  abbrev pub space_at : RegionSpace → List Seg → Run S AddressSpace
  space_at kinds.SystemMemory scope = give spaces.Memory
  space_at kinds.SystemIo scope = give spaces.Io
  space_at kinds.PciConfig scope = pci_address scope
  space_at kinds.Other scope = stop (refusal.Evaluation SpaceKind)

  unfoldable pub located : ℕ → Run S Region
  located n = do
    d ← lift (region_declared n)
    space ← space_at (space_numbered d.1.space) d.0
    give (record { space = space; offset = d.1.offset; length = d.1.length })

  -- ---- fields of a region

  unfoldable pub region_bits : RegionField → Run S (List ℕ)
  region_bits f = do
    r ← located f.region
    lift (on_space (read_field accesses r f.unit))

  unfoldable pub region_written : RegionField → List ℕ → Run S (Unit {0})
  region_written f bytes = do
    r ← located f.region
    lift (on_space (write_field accesses r f.unit bytes))

  -- ---- fields behind an index field and a data field: each unit's offset is written to the index field first

  unfoldable pub index_unit : RegionField → RegionField → Width → Access → Run S ℕ
  index_unit index behind w u = do
    chosen ← region_written index (unit_bytes u.offset)
    bytes ← region_bits behind
    give (unit_of w bytes)

  unfoldable pub index_unit_written : RegionField → RegionField → FieldUnit → List ℕ → Access → Run S (Unit {0})
  index_unit_written index behind f bytes u = do
    old ← kept f u (index_unit index behind f.access u)
    chosen ← region_written index (unit_bytes u.offset)
    region_written behind (unit_bytes (merged (rest_of_unit f.update f.access old) u.first (field_bits bytes u.position u.count)))

  unfoldable pub index_bits : ℕ → ℕ → FieldUnit → Run S (List ℕ)
  index_bits i d f = do
    index ← lift (field_declared i)
    behind ← lift (field_declared d)
    bits_read (index_unit index behind f.access) f

  unfoldable pub index_written : ℕ → ℕ → FieldUnit → List ℕ → Run S (Unit {0})
  index_written i d f bytes = do
    index ← lift (field_declared i)
    behind ← lift (field_declared d)
    write_units (index_unit_written index behind f bytes) (units_of f.bit_offset f.bits f.access)

  -- ---- fields of a bank: it is selected before each access of a unit, by its value in the bank field

  unfoldable pub bank_selected : RegionField → ℕ → Run S (Unit {0})
  bank_selected bank value = do
    held ← settle (bank_held bank value)
    region_written bank (unit_bytes value)

  unfoldable pub bank_unit : RegionField → ℕ → Region → Width → Access → Run S ℕ
  bank_unit bank value r w u = do
    selected ← bank_selected bank value
    lift (on_space (read_unit accesses r w u))

  unfoldable pub bank_unit_written : RegionField → ℕ → Region → FieldUnit → List ℕ → Access → Run S (Unit {0})
  bank_unit_written bank value r f bytes u = do
    old ← kept f u (bank_unit bank value r f.access u)
    selected ← bank_selected bank value
    lift (on_space (write_whole accesses r f.access u.offset (merged (rest_of_unit f.update f.access old) u.first (field_bits bytes u.position u.count))))

  -- the region is located once, before any unit
  unfoldable pub bank_bits : ℕ → Bank → FieldUnit → Run S (List ℕ)
  bank_bits n b f = do
    bank ← lift (field_declared b.field)
    r ← located n
    bits_read (bank_unit bank b.value r f.access) f

  unfoldable pub bank_written : ℕ → Bank → FieldUnit → List ℕ → Run S (Unit {0})
  bank_written n b f bytes = do
    bank ← lift (field_declared b.field)
    r ← located n
    write_units (bank_unit_written bank b.value r f bytes) (units_of f.bit_offset f.bits f.access)

  -- ---- any field

  abbrev pub field_unit_bits : FieldSource → FieldUnit → Run S (List ℕ)
  field_unit_bits (sources.Region n) f = region_bits (record { region = n; unit = f })
  field_unit_bits (sources.Index i d) f = index_bits i d f
  field_unit_bits (sources.Bank n b) f = bank_bits n b f

  abbrev pub field_unit_written : FieldSource → FieldUnit → List ℕ → Run S (Unit {0})
  field_unit_written (sources.Region n) f bytes = region_written (record { region = n; unit = f }) bytes
  field_unit_written (sources.Index i d) f bytes = index_written i d f bytes
  field_unit_written (sources.Bank n b) f bytes = bank_written n b f bytes

  abbrev pub bits_in : Field → Run S (List ℕ)
  bits_in (field.Unit u) = field_unit_bits u.source u
  bits_in (field.Buffer b) = lift (on_objects (read_buffer_field b))

  abbrev pub written_in : Field → List ℕ → Run S (Unit {0})
  written_in (field.Unit u) bytes = field_unit_written u.source u bytes
  written_in (field.Buffer b) bytes = lift (on_objects (write_buffer_field b bytes))

  unfoldable pub field_value : Field → Run S Value
  field_value f = do
    bytes ← bits_in f
    lift (value_of_bits (bits_of_field f) bytes)

  -- the same as an integer, where one is counted, as a part of an address, as it is handed out, and as what SizeOf and ObjectType
  -- speak of: no object is made
  unfoldable pub field_integer : Field → Run S ℕ
  field_integer f = do
    bytes ← bits_in f
    lift (integer_of_bits bytes)

  unfoldable pub field_part : Field → Run S ℕ
  field_part f = do
    bytes ← bits_in f
    lift (integer_alone (bits_of_field f) bytes)

  unfoldable pub field_given : Field → Run S given.Given
  field_given f = do
    bytes ← bits_in f
    lift (given_of_bits (bits_of_field f) bytes)

  unfoldable pub field_referent : Field → Run S Referent
  field_referent f = do
    bytes ← bits_in f
    lift (referent_of_bits (bits_of_field f) bytes)

  unfoldable pub field_stored : Field → Value → Run S (Unit {0})
  field_stored f v = do
    bytes ← lift (bytes_in v)
    written_in f bytes
