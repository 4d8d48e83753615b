-- Names of fields where values stand, and where values are stored to (ACPI 6.5, 5.5.2.4 and 19.6: Field, CreateField).
use Rattle.std.specs.Prelude.{◌≡◌, ℕ, List, Ok}
use Rattle.ar_space.specs.Accesses.{Accesses}
use Rattle.aml_path.specs.declared.segment.Seg.{Seg}
use Rattle.aml_path.specs.Paths.{Name}
use Rattle.aml_objects.specs.declared.entry.BufferField.{BufferField}
use Rattle.aml_objects.specs.declared.entry.Field.{Field}
use Rattle.aml_objects.specs.declared.entry.Field.TheVariants as field
use Rattle.aml_objects.specs.declared.entry.FieldUnit.{FieldUnit}
use Rattle.aml_objects.specs.declared.entry.NamedObject.{NamedObject}
use Rattle.aml_objects.specs.declared.entry.NamedObject.TheVariants as named
use Rattle.aml_namespace.specs.Search.{found}
use Rattle.aml_world.specs.state.State.{State}
use Rattle.aml_world.specs.fields.Fields.{bits_in, written_in}
use Rattle.aml_world.specs.state.Run.{Run}
use Rattle.aml_meaning.specs.FieldCalls.{called_at}
use Rattle.aml_meaning.specs.Meaning.{meaning}

-- a field that a name stands for, and how many bits it has
pub data IsField : NamedObject → Field → ℕ → Type 0 where
  of_unit : (u : FieldUnit) → IsField (named.FieldUnit u) (field.Unit u) u.bits
  of_buffer : (b : BufferField) → IsField (named.BufferField b) (field.Buffer b) b.bits

-- a name finds a field
pub record NamesField {S : Type 0} (w : State S) (scope : List Seg) (n : Name) (f : Field) (bits : ℕ) : Type 0 where
  pub path : List Seg
  pub number : ℕ
  pub object : NamedObject
  pub finds : found w.names.map scope n ≡ Ok (path, record { number = number; object = object })
  pub is : IsField object f bits

-- the bits of a field, read by terms at a depth, and bytes that are written to it
abbrev pub bits_read_at : {S : Type 0} → Accesses S → ℕ → Field → Run S (List ℕ)
bits_read_at accesses depth f = bits_in accesses (called_at accesses (meaning accesses) depth) f

abbrev pub bits_written_at : {S : Type 0} → Accesses S → ℕ → Field → List ℕ → Run S (Unit {0})
bits_written_at accesses depth f bytes = written_in accesses (called_at accesses (meaning accesses) depth) f bytes
