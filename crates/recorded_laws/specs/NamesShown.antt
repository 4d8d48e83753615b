-- The lines of `names`: for each name its path and the word of what stands there.
use Rattle.std.specs.Prelude.{◌≡◌, ◌++◌, ◌%◌, ℕ, List, [], ◌∷◌, Some, codes, decimal}
use Rattle.std.specs.FinMap.{get}
use Rattle.aml_path.specs.declared.segment.Seg.{Seg}
use Rattle.aml_path.specs.Text.{text_of}
use Rattle.aml_objects.specs.declared.entry.Entry.{Entry}
use Rattle.aml_objects.specs.declared.entry.Method.{Method}
use Rattle.aml_objects.specs.declared.entry.NamedObject.{NamedObject}
use Rattle.aml_objects.specs.declared.entry.NamedObject.TheVariants as named
use Rattle.aml_objects.specs.declared.value.Reference.{Reference}
use Rattle.aml_objects.specs.declared.value.Value.{Value}
use Rattle.aml_objects.specs.declared.value.Value.TheVariants as value
use Rattle.aml_namespace.specs.Namespace.{Map}
use Rattle.aml_laws.specs.ReferringTerms.{IsNumbered, IsNamedKind}

-- the words of types, by the numbers that ObjectType gives for them (ACPI 6.5, 19.6: ObjectType, its table)
pub data IsTypeWord : ℕ → List ℕ → Type 0 where
  integer_word : IsTypeWord 1 (codes "Integer")
  string_word : IsTypeWord 2 (codes "String")
  buffer_word : IsTypeWord 3 (codes "Buffer")
  package_word : IsTypeWord 4 (codes "Package")
  field_unit_word : IsTypeWord 5 (codes "FieldUnit")
  device_word : IsTypeWord 6 (codes "Device")
  event_word : IsTypeWord 7 (codes "Event")
  mutex_word : IsTypeWord 9 (codes "Mutex")
  region_word : IsTypeWord 10 (codes "Region")
  power_resource_word : IsTypeWord 11 (codes "PowerRes")
  processor_word : IsTypeWord 12 (codes "Processor")
  thermal_zone_word : IsTypeWord 13 (codes "ThermalZone")
  buffer_field_word : IsTypeWord 14 (codes "BufferField")

-- What stands at a name is shown so. With a control method goes how many arguments it takes, bits 0 to 2 of its flags, and with an alias
-- the path that it is one of.
pub data IsShownAs : NamedObject → List ℕ → Type 0 where
  of_kind : (object : NamedObject) (k : ℕ) (word : List ℕ) → IsNamedKind object k → IsTypeWord k word → IsShownAs object word
  of_value : (v : Value) (k : ℕ) (word : List ℕ) → IsNumbered v k → IsTypeWord k word → IsShownAs (named.Data v) word
  of_method : (m : Method) → IsShownAs (named.Method m) (codes "Method " ++ decimal (m.flags.byte % 8))
  of_alias : (path : List Seg) → IsShownAs (named.Alias path) (codes "Alias " ++ text_of path)
  of_scope : IsShownAs named.Scope (codes "Scope")
  of_reference : (r : Reference) → IsShownAs (named.Data (value.Reference r)) (codes "Reference")
  of_nothing : IsShownAs (named.Data value.Uninitialized) (codes "Uninitialized")

-- a line for each of these paths, in their order
abbrev pub AreLinesOf : Map → List (List Seg) → List ℕ → Type 0
AreLinesOf names [] text = text ≡ []
AreLinesOf names (path ∷ paths) text =
    (e : Entry) × (word : List ℕ) × (rest : List ℕ) × (get names path ≡ Some e) × IsShownAs e.object word
    × (text ≡ text_of path ++ (codes " " ++ (word ++ (codes "\n" ++ rest)))) × AreLinesOf names paths rest
