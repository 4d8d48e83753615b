-- Where the fields of a list lie (ACPI 6.5, 19.6: Field, IndexField, BankField; 20.2.5.2: FieldList).
use Rattle.std.specs.Prelude.{ℕ, ◌+◌, ◌^◌, ◌/◌, ◌%◌, ◌==◌, ◌||◌, nat_lt, List, Bool, Ok, Err, if◌then◌else◌}
use Rattle.ar_space.specs.declared.space.Width.{Width}
use Rattle.ar_space.specs.declared.space.Width.TheVariants.{W8, W16, W32, W64}
use Rattle.ar_space.specs.declared.refusal.Refusal.TheVariants as refusal
use Rattle.ar_space.specs.declared.refusal.FieldFault.TheVariants.{FieldLimit}
use Rattle.ar_space.specs.declared.refusal.ValueFault.TheVariants.{WrongType}
use Rattle.ar_space.specs.Outcome.{Outcome}
use Rattle.ar_space.specs.Change.{Change, settle, ◌>>=◌}
use Rattle.aml_path.specs.declared.segment.Seg.{Seg}
use Rattle.aml_path.specs.Paths.{Name}
use Rattle.aml_objects.specs.declared.value.Value.{Value}
use Rattle.aml_objects.specs.declared.entry.NamedObject.{NamedObject}
use Rattle.aml_objects.specs.declared.entry.NamedObject.TheVariants as object
use Rattle.aml_objects.specs.declared.entry.FieldSource.{FieldSource}
use Rattle.aml_objects.specs.declared.entry.FieldSource.TheVariants as sources
use Rattle.aml_objects.specs.declared.entry.UpdateRule.{UpdateRule}
use Rattle.aml_objects.specs.declared.entry.UpdateRule.TheVariants.{Preserve, WriteAsOnes, WriteAsZeros}
use Rattle.aml_world.specs.declared.fields.field_layout.FieldLayout.{FieldLayout}
use Rattle.aml_world.specs.declared.fields.field_layout.FieldGroup.{FieldGroup}
use Rattle.aml_world.specs.state.State.{State}
use Rattle.aml_world.specs.state.Readings.{entry_found}
use Rattle.aml_world.specs.state.Declaring.{new_name}
use Rattle.aml_world.specs.fields.BufferFields.{buffer_of}

-- how wide accesses are: the lowest four bits; any other number stands for byte accesses
abbrev pub width_numbered : ℕ → Width
width_numbered n = if n == 2 then W16 else (if n == 3 then W32 else (if n == 4 then W64 else W8))

abbrev pub access_width : ℕ → Width
access_width flags = width_numbered (flags % 16)

-- what a write does with the other bits of a unit: bits 5 and 6
abbrev pub rule_numbered : ℕ → UpdateRule
rule_numbered n = if n == 1 then WriteAsOnes else (if n == 2 then WriteAsZeros else Preserve)

abbrev pub update_rule : ℕ → UpdateRule
update_rule flags = rule_numbered (flags / 32 % 4)

-- a named field has 1 to 8,388,608 bits
abbrev pub sized : ℕ → Outcome ℕ
sized count = if count == 0 || nat_lt 8388608 count then Err (refusal.Field FieldLimit) else Ok count

-- so many bits further on; offsets are below 2^64, which no list of a table reaches
abbrev pub further : FieldLayout → ℕ → Outcome FieldLayout
further at count = if nat_lt (at.bit_offset + count) (2 ^ 64) then Ok (record at { bit_offset = at.bit_offset + count }) else Err (refusal.Field FieldLimit)

-- a new field unit
unfoldable pub new_field : {S : Type 0} → FieldGroup → Bool → List Seg → FieldLayout → ℕ → Change (State S) FieldLayout
new_field group module_level p at count = do
  bits ← settle (sized count)
  number ← new_name module_level p (object.FieldUnit (record { source = group.source; bit_offset = at.bit_offset; bits = bits; access = at.access; update = group.update }))
  settle (further at count)

-- the buffer that a Connection names
abbrev pub connection_buffer : NamedObject → Outcome ℕ
connection_buffer (object.Data v) = buffer_of v
connection_buffer _ = Err (refusal.Value WrongType)

unfoldable pub connection_found : {S : Type 0} → List Seg → Name → Change (State S) ℕ
connection_found scope n = do
  e ← entry_found scope n
  settle (connection_buffer e.object)

abbrev pub region_number : ℕ → NamedObject → Outcome ℕ
region_number n (object.OperationRegion r) = Ok n
region_number n _ = Err (refusal.Value WrongType)

unfoldable pub region_found : {S : Type 0} → List Seg → Name → Change (State S) ℕ
region_found scope n = do
  e ← entry_found scope n
  settle (region_number e.number e.object)

abbrev pub in_region : ℕ → FieldSource → Outcome ℕ
in_region n (sources.Region r) = Ok n
in_region n (sources.Index i d) = Err (refusal.Value WrongType)
in_region n (sources.Bank r b) = Err (refusal.Value WrongType)

abbrev pub field_number : ℕ → NamedObject → Outcome ℕ
field_number n (object.FieldUnit u) = in_region n u.source
field_number n _ = Err (refusal.Value WrongType)

unfoldable pub field_found : {S : Type 0} → List Seg → Name → Change (State S) ℕ
field_found scope n = do
  e ← entry_found scope n
  settle (field_number e.number e.object)
