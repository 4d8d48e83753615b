-- Terms that ask of objects, and that refer to parts of them (ACPI 6.5, 19.6: CondRefOf, DerefOf, Index, ObjectType, SizeOf).
use Rattle.std.specs.Prelude.{◌≡◌, ◌<◌, ◌≤◌, ℕ, suc, List, length, slice_get, Some, Ok}
use Rattle.ar_space.specs.Accesses.{Accesses}
use Rattle.aml_path.specs.declared.segment.Seg.{Seg}
use Rattle.aml_grammar.specs.declared.opcode.Opcode.TheVariants as opcodes
use Rattle.aml_grammar.specs.Tree.{Tree, Part, null, inner, no_parts, part}
use Rattle.aml_objects.specs.declared.object.Element.{Element}
use Rattle.aml_objects.specs.declared.object.Element.TheVariants as element
use Rattle.aml_objects.specs.declared.object.Object.TheVariants as object
use Rattle.aml_objects.specs.declared.entry.BufferField.{BufferField}
use Rattle.aml_objects.specs.declared.entry.FieldUnit.{FieldUnit}
use Rattle.aml_objects.specs.declared.entry.Method.{Method}
use Rattle.aml_objects.specs.declared.entry.NamedObject.{NamedObject}
use Rattle.aml_objects.specs.declared.entry.NamedObject.TheVariants as named
use Rattle.aml_objects.specs.declared.entry.OperationRegion.{OperationRegion}
use Rattle.aml_objects.specs.declared.value.Reference.{Reference}
use Rattle.aml_objects.specs.declared.value.Reference.TheVariants as reference
use Rattle.aml_objects.specs.declared.value.Value.{Value}
use Rattle.aml_objects.specs.declared.value.Value.TheVariants as value
use Rattle.aml_world.specs.declared.state.frame.Frame.{Frame}
use Rattle.aml_world.specs.state.State.{State}
use Rattle.aml_world.specs.state.Slots.{frame_index}
use Rattle.aml_world.specs.state.Readings.{integer_in}
use Rattle.aml_laws.specs.OperatorTerms.{of_opcode}
use Rattle.aml_laws.specs.TestTerms.{TwoValues}

-- ---- Index

-- an object with parts: how many it has, and a reference to each
pub data HasParts {S : Type 0} (w : State S) : Value → ℕ → (ℕ → Reference) → Type 0 where
  elements : (o : ℕ) (es : List Element) → slice_get w.objects o ≡ Some (object.Package es) → HasParts w (value.Package o) (length es) (λ i. reference.Element o i)
  bytes_of_string : (o : ℕ) (bytes : List ℕ) → slice_get w.objects o ≡ Some (object.String bytes) → HasParts w (value.String o) (length bytes) (λ i. reference.Byte o i)
  bytes_of_buffer : (o : ℕ) (bytes : List ℕ) → slice_get w.objects o ≡ Some (object.Buffer bytes) → HasParts w (value.Buffer o) (length bytes) (λ i. reference.Byte o i)

-- what has none
pub data HasNoParts : Value → Type 0 where
  an_integer_has_none : (n : ℕ) → HasNoParts (value.Integer n)
  a_reference_has_none : (r : Reference) → HasNoParts (value.Reference r)

-- and what its part at an index is
pub data HasPart {S : Type 0} (w : State S) : Value → ℕ → Value → Type 0 where
  element_there : (o i : ℕ) (es : List Element) (v : Value) → slice_get w.objects o ≡ Some (object.Package es) → slice_get es i ≡ Some (element.Value v) → HasPart w (value.Package o) i v
  byte_of_string : (o i b : ℕ) (bytes : List ℕ) → slice_get w.objects o ≡ Some (object.String bytes) → slice_get bytes i ≡ Some b → HasPart w (value.String o) i (value.Integer b)
  byte_of_buffer : (o i b : ℕ) (bytes : List ℕ) → slice_get w.objects o ≡ Some (object.Buffer bytes) → slice_get bytes i ≡ Some b → HasPart w (value.Buffer o) i (value.Integer b)

-- the operands of an Index give an object with parts and a value that converts to an index
pub record Indexes {S : Type 0} (accesses : Accesses S) (scope : List Seg) (depth : ℕ) (x y : Tree) (s : State S × ℕ) (v : Value) (i : ℕ) (after : State S × ℕ) : Type 0 where
  pub u : Value
  pub operands : TwoValues accesses scope depth x y s v u after
  pub converts : integer_in u after.0 ≡ (Ok i, after.0)

-- ---- SizeOf and ObjectType

-- the operand is a target
abbrev pub size_of : Part → Tree
size_of p = of_opcode opcodes.SizeOf (part p no_parts)

abbrev pub object_type : Part → Tree
object_type p = of_opcode opcodes.ObjectType (part p no_parts)

-- the number of the type of a value, and of what a name stands for that holds none (19.6: ObjectType, its table)
pub data IsNumbered : Value → ℕ → Type 0 where
  an_integer : (n : ℕ) → IsNumbered (value.Integer n) 1
  a_string : (o : ℕ) → IsNumbered (value.String o) 2
  a_buffer : (o : ℕ) → IsNumbered (value.Buffer o) 3
  a_package : (o : ℕ) → IsNumbered (value.Package o) 4

pub data IsNamedKind : NamedObject → ℕ → Type 0 where
  scope : IsNamedKind named.Scope 0
  field_unit : (u : FieldUnit) → IsNamedKind (named.FieldUnit u) 5
  device : IsNamedKind named.Device 6
  event : (count : ℕ) → IsNamedKind (named.Event count) 7
  method : (m : Method) → IsNamedKind (named.Method m) 8
  mutex : (count : ℕ) → IsNamedKind (named.Mutex count) 9
  region : (r : OperationRegion) → IsNamedKind (named.OperationRegion r) 10
  power_resource : IsNamedKind named.PowerResource 11
  processor : IsNamedKind named.Processor 12
  thermal_zone : IsNamedKind named.ThermalZone 13
  buffer_field : (b : BufferField) → IsNamedKind (named.BufferField b) 14

-- ---- CondRefOf

-- what it refers to, and the target of the reference
abbrev pub conditional : Part → Part → Tree
conditional p q = of_opcode opcodes.CondRefOf (part p (part q no_parts))

-- the frame of the control method that runs is the latest one with its number
abbrev pub IsNumberedLast : {S : Type 0} → State S → Frame → ℕ → Type 0
IsNumberedLast w frame last = frame_index frame.number w.frames ≡ Some last

-- DerefOf of an Index without a target
abbrev pub part_read : Tree → Tree → Tree
part_read x y = of_opcode opcodes.DerefOf (part (inner (of_opcode opcodes.Index (part (inner x) (part (inner y) (part null no_parts))))) no_parts)
