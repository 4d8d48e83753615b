-- Chains of references, and packages one inside another.
use Rattle.std.specs.Prelude.{◌≡◌, ◌≢◌, ℕ, zero, suc, List, ◌∷◌, Bool, true, false, Ok, Some, slice_get}
use Rattle.aml_path.specs.declared.segment.Seg.{Seg}
use Rattle.aml_namespace.specs.Namespace.{numbered}
use Rattle.aml_objects.specs.declared.object.Element.{Element}
use Rattle.aml_objects.specs.declared.object.Element.TheVariants as element
use Rattle.aml_objects.specs.declared.object.Object.TheVariants as object
use Rattle.aml_objects.specs.Objects.{Objects, byte_at}
use Rattle.aml_objects.specs.declared.entry.BufferField.{BufferField}
use Rattle.aml_objects.specs.declared.entry.Entry.{Entry}
use Rattle.aml_objects.specs.declared.entry.Field.{Field}
use Rattle.aml_objects.specs.declared.entry.FieldUnit.{FieldUnit}
use Rattle.aml_objects.specs.declared.entry.Method.{Method}
use Rattle.aml_objects.specs.declared.entry.NamedObject.{NamedObject}
use Rattle.aml_objects.specs.declared.entry.NamedObject.TheVariants as named
use Rattle.aml_objects.specs.declared.entry.OperationRegion.{OperationRegion}
use Rattle.aml_objects.specs.declared.value.Value.{Value}
use Rattle.aml_objects.specs.declared.value.Value.TheVariants as value
use Rattle.aml_objects.specs.declared.value.Reference.{Reference}
use Rattle.aml_objects.specs.declared.value.Reference.TheVariants as reference
use Rattle.aml_objects.specs.declared.value.Slot.TheVariants.{Argument}
use Rattle.aml_world.specs.declared.values.store_target.Held.TheVariants as held
use Rattle.aml_world.specs.declared.values.object_type.ObjectType.{ObjectType}
use Rattle.aml_world.specs.declared.values.object_type.ObjectType.TheVariants as types
use Rattle.aml_world.specs.declared.values.object_type.Referent.{Referent}
use Rattle.aml_world.specs.declared.values.object_type.Referent.TheVariants as referent
use Rattle.aml_world.specs.state.Given.{Given, Nothing, Package, none, more}
use Rattle.aml_world.specs.state.State.{State}
use Rattle.aml_world.specs.state.Slots.{frame_index, slot_at}
use Rattle.aml_world.specs.values.StoreTargets.{dereferenced}

abbrev pub is_reference : Value → Bool
is_reference (value.Reference r) = true
is_reference _ = false

abbrev pub is_byte : Reference → Bool
is_byte (reference.Byte o i) = true
is_byte _ = false

-- the type of a name that holds no value (ACPI 6.5, 19.6: ObjectType, its table)
pub data HasType : NamedObject → ObjectType → Type 0 where
  of_scope : HasType named.Scope types.Uninitialized
  of_device : HasType named.Device types.Device
  of_processor : HasType named.Processor types.Processor
  of_power_resource : HasType named.PowerResource types.PowerResource
  of_thermal_zone : HasType named.ThermalZone types.ThermalZone
  of_method : (m : Method) → HasType (named.Method m) types.Method
  of_region : (r : OperationRegion) → HasType (named.OperationRegion r) types.OperationRegion
  of_field_unit : (u : FieldUnit) → HasType (named.FieldUnit u) types.FieldUnit
  of_buffer_field : (b : BufferField) → HasType (named.BufferField b) types.BufferField
  of_mutex : (count : ℕ) → HasType (named.Mutex count) types.Mutex
  of_event : (count : ℕ) → HasType (named.Event count) types.Event

-- What a reference refers to that refers to no other one: a value; a name that holds none; a field that a package names by an element,
-- which stands for what the field holds; a byte of a string or a buffer.
pub data RefersLast {S : Type 0} (w : State S) : Reference → Referent → Type 0 where
  to_value : (r : Reference) (v : Value) → is_byte r ≡ false → (dereferenced r w).0 ≡ Ok (held.Value v) → is_reference v ≡ false
      → RefersLast w r (referent.Value v)
  to_name : (n : ℕ) (path : List Seg) (e : Entry) (t : ObjectType) → numbered n w.names.map ≡ Some (path, e) → HasType e.object t
      → RefersLast w (reference.Name n) (referent.Object t)
  to_field : (o i : ℕ) (f : Field) → (dereferenced (reference.Element o i) w).0 ≡ Ok (held.Field f)
      → RefersLast w (reference.Element o i) (referent.Field f)
  to_byte : (o i b : ℕ) → (byte_at o i w.objects).0 ≡ Ok b → RefersLast w (reference.Byte o i) (referent.Object types.BufferField)

-- so many references, each but the last of which refers to the next one, and what the last refers to
pub data Chain {S : Type 0} (w : State S) : ℕ → Reference → Referent → Type 0 where
  last : (r : Reference) (x : Referent) → RefersLast w r x → Chain w 1 r x
  next : (n : ℕ) (r q : Reference) (x : Referent) → (dereferenced r w).0 ≡ Ok (held.Value (value.Reference q)) → q ≢ r
      → Chain w n q x → Chain w (suc n) r x

-- a reference to an argument of a control method that runs, which holds another reference
pub record IsLink {S : Type 0} (w : State S) (r q : Reference) : Type 0 where
  pub argument : ℕ
  pub number : ℕ
  pub is : r ≡ reference.Slot (Argument argument) number
  pub frame : ℕ
  pub stands : frame_index number w.frames ≡ Some frame
  pub holds : slot_at (Argument argument) w.frames (Some frame) ≡ Ok (value.Reference q)

-- so many references, each but the last of which is one to an argument that holds the next
pub data ArgumentChain {S : Type 0} (w : State S) : ℕ → Reference → Reference → Type 0 where
  alone : (r : Reference) → ArgumentChain w 1 r r
  link : (n : ℕ) (r q end : Reference) → IsLink w r q → ArgumentChain w n q end → ArgumentChain w (suc n) r end

-- so many packages, each the only element of the one round it, as they are handed in
abbrev pub nested : ℕ → Given
nested zero = Nothing
nested (suc n) = Package (more (nested n) none)

-- an object that is a package, whose first element is a package, and so on: so many of them
pub data IsNested (objects : Objects) : ℕ → ℕ → Type 0 where
  innermost : (o : ℕ) (elements : List Element) → slice_get objects o ≡ Some (object.Package elements) → IsNested objects 1 o
  round : (n o p : ℕ) (elements : List Element) → slice_get objects o ≡ Some (object.Package (element.Value (value.Package p) ∷ elements))
      → IsNested objects n p → IsNested objects (suc n) o
