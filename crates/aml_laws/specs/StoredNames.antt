-- What a Store leaves in a name (ACPI 6.5, 19.3.5.8 and 19.6: Store).
use Rattle.std.specs.Prelude.{ℕ, ◌-◌, List, ◌++◌, length, take, replicate, slice_set}
use Rattle.std.specs.FinMap.{insert}
use Rattle.aml_path.specs.declared.segment.Seg.{Seg}
use Rattle.aml_objects.specs.declared.entry.Entry.{Entry}
use Rattle.aml_objects.specs.declared.entry.NamedObject.TheVariants as named
use Rattle.aml_objects.specs.declared.object.Object.{Object}
use Rattle.aml_objects.specs.declared.value.Value.{Value}
use Rattle.aml_objects.specs.declared.value.Value.TheVariants as value
use Rattle.aml_world.specs.state.State.{State}

-- a name that holds a value, by the number of its declaration
abbrev pub data_entry : ℕ → Value → Entry
data_entry n v = record { number = n; object = named.Data v }

-- the same world, with an integer in the name at a path
abbrev pub with_integer : {S : Type 0} → State S → List Seg → ℕ → ℕ → State S
with_integer w path number n = record w { names = record w.names { map = insert w.names.map path (data_entry number (value.Integer n)) } }

-- the same world, with another object under a number
abbrev pub with_object_numbered : {S : Type 0} → State S → ℕ → Object → State S
with_object_numbered w o x = record w { objects = slice_set w.objects o x }

-- bytes that are cut or filled with zeros to a length
abbrev pub cut_or_filled : ℕ → List ℕ → List ℕ
cut_or_filled room bytes = take room bytes ++ replicate (room - length bytes) 0
