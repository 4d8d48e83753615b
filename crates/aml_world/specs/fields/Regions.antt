-- Operation regions and the field units in them, as they were declared (ACPI 6.5, 5.5.2.4 and 19.6: OperationRegion, Field, IndexField,
-- BankField).
use Rattle.std.specs.Prelude.{ℕ, ◌/◌, ◌%◌, ◌^◌, ◌==◌, nat_lt, ◌&&◌, List, length, Ok, Err, if◌then◌else◌}
use Rattle.ar_space.specs.declared.refusal.Refusal.TheVariants as refusal
use Rattle.ar_space.specs.declared.refusal.EvaluationFault.TheVariants.{DeadReference, NoValue}
use Rattle.ar_space.specs.declared.refusal.FieldFault.TheVariants.{RegionLimit}
use Rattle.ar_space.specs.declared.refusal.ValueFault.TheVariants.{WrongType}
use Rattle.ar_space.specs.Outcome.{Outcome, seen}
use Rattle.ar_space.specs.Change.{Change, give, settle, ◌>>=◌}
use Rattle.aml_path.specs.declared.segment.Seg.{Seg}
use Rattle.aml_objects.specs.Contents.{Buffer}
use Rattle.aml_objects.specs.Objects.{make_buffer}
use Rattle.aml_objects.specs.declared.value.Value.{Value}
use Rattle.aml_objects.specs.declared.value.Value.TheVariants as value
use Rattle.aml_objects.specs.declared.entry.NamedObject.{NamedObject}
use Rattle.aml_objects.specs.declared.entry.NamedObject.TheVariants as object
use Rattle.aml_objects.specs.declared.entry.OperationRegion.{OperationRegion}
use Rattle.aml_objects.specs.declared.entry.FieldUnit.{FieldUnit}
use Rattle.aml_objects.specs.declared.entry.FieldSource.{FieldSource}
use Rattle.aml_objects.specs.declared.entry.FieldSource.TheVariants as source
use Rattle.aml_convert.specs.Conversions.{to_integer_of}
use Rattle.aml_convert.specs.Integers.{bits_of}
use Rattle.aml_fields.specs.declared.region.AddressSpace.{AddressSpace}
use Rattle.aml_fields.specs.declared.region.AddressSpace.TheVariants.{Pci}
use Rattle.aml_namespace.specs.Namespace.{above}
use Rattle.aml_world.specs.declared.values.object_type.Referent.{Referent}
use Rattle.aml_world.specs.declared.values.object_type.Referent.TheVariants as referent
use Rattle.aml_world.specs.declared.fields.regions.RegionSpace.{RegionSpace}
use Rattle.aml_world.specs.declared.fields.regions.RegionSpace.TheVariants as spaces
use Rattle.aml_world.specs.declared.fields.regions.RegionField.{RegionField}
use Rattle.aml_world.specs.state.Given as given
use Rattle.aml_world.specs.state.State.{State, on_objects}
use Rattle.aml_world.specs.values.StoreTargets.{declaration}

-- the address space with a number
abbrev pub space_numbered : ℕ → RegionSpace
space_numbered n = if n == 0 then spaces.SystemMemory else (if n == 1 then spaces.SystemIo else (if n == 2 then spaces.PciConfig else spaces.Other))

-- what an object answers that is a part of an address: an integer, without conversion
abbrev pub integer_only : Value → Outcome ℕ
integer_only value.Uninitialized = Err (refusal.Evaluation NoValue)
integer_only (value.Integer n) = Ok n
integer_only (value.String o) = Err (refusal.Value WrongType)
integer_only (value.Buffer o) = Err (refusal.Value WrongType)
integer_only (value.Package o) = Err (refusal.Value WrongType)
integer_only (value.Reference r) = Err (refusal.Value WrongType)

-- the registers of a PCI function: segment group, bus, and the address with the device in its high word and the function in its low one
abbrev pub pci_space : ℕ → ℕ → ℕ → Outcome AddressSpace
pci_space seg bus address =
    if nat_lt seg 65536 && (nat_lt bus 256 && (nat_lt (address / 65536) 32 && nat_lt (address % 65536) 8))
    then Ok (Pci seg bus (address / 65536) (address % 65536))
    else Err (refusal.Field RegionLimit)

-- the region with the number of a declaration, while it stands, and the scope that it was declared in
abbrev pub region_of_object : NamedObject → Outcome OperationRegion
region_of_object (object.OperationRegion r) = Ok r
region_of_object _ = Err (refusal.Evaluation DeadReference)

unfoldable pub region_declared : {S : Type 0} → ℕ → Change (State S) (List Seg × OperationRegion)
region_declared n = do
  e ← declaration n
  r ← settle (region_of_object e.1.object)
  give (above e.0, r)

-- the field unit of a region with the number of a declaration, while it stands
abbrev pub region_field : FieldSource → FieldUnit → Outcome RegionField
region_field (source.Region n) u = Ok (record { region = n; unit = u })
region_field (source.Index i d) u = Err (refusal.Evaluation DeadReference)
region_field (source.Bank n b) u = Err (refusal.Evaluation DeadReference)

abbrev pub field_of_object : NamedObject → Outcome RegionField
field_of_object (object.FieldUnit u) = region_field u.source u
field_of_object _ = Err (refusal.Evaluation DeadReference)

unfoldable pub field_declared : {S : Type 0} → ℕ → Change (State S) RegionField
field_declared n = do
  e ← declaration n
  settle (field_of_object e.1.object)

-- a bank field has to hold the value that selects a bank
abbrev pub bank_held : RegionField → ℕ → Outcome (Unit {0})
bank_held bank value = if nat_lt value (2 ^ bank.unit.bits) then Ok tt else Err (refusal.Field RegionLimit)

-- bits as an integer; as a value: an integer where they are no more than an integer has, else a buffer
unfoldable pub integer_of_bits : {S : Type 0} → List ℕ → Change (State S) ℕ
integer_of_bits bytes w = (to_integer_of w.width (Buffer bytes), w)

unfoldable pub integer_value : {S : Type 0} → List ℕ → Change (State S) Value
integer_value bytes = do
  n ← integer_of_bits bytes
  give (value.Integer n)

unfoldable pub value_of_bits : {S : Type 0} → ℕ → List ℕ → Change (State S) Value
value_of_bits count bytes w = if nat_lt (bits_of w.width) count then on_objects (make_buffer bytes) w else integer_value bytes w

-- bits that are a part of an address: no more than an integer has
unfoldable pub integer_alone : {S : Type 0} → ℕ → List ℕ → Change (State S) ℕ
integer_alone count bytes w = if nat_lt (bits_of w.width) count then (Err (refusal.Value WrongType), w) else integer_of_bits bytes w

-- bits as they are handed out, which makes no object
unfoldable pub given_of_bits : {S : Type 0} → ℕ → List ℕ → Change (State S) given.Given
given_of_bits count bytes w = if nat_lt (bits_of w.width) count then (Ok (given.Bytes bytes), w) else (seen given.Integer (to_integer_of w.width (Buffer bytes)), w)

-- bits as what SizeOf and ObjectType speak of, which makes no object
abbrev pub integer_referent : ℕ → Referent
integer_referent n = referent.Value (value.Integer n)

unfoldable pub referent_of_bits : {S : Type 0} → ℕ → List ℕ → Change (State S) Referent
referent_of_bits count bytes w = if nat_lt (bits_of w.width) count then (Ok (referent.Bytes (length bytes)), w) else (seen integer_referent (to_integer_of w.width (Buffer bytes)), w)
