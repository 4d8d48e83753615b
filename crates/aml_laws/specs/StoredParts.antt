-- Slots, elements of packages, bytes and names that values are stored to (ACPI 6.5, 19.3.5.8 and 19.6: Index, Store).
use Rattle.std.specs.Prelude.{◌≡◌, ◌≢◌, ◌<◌, ◌%◌, ℕ, suc, List, ◌∷◌, ◌++◌, length, slice_get, slice_set, Some}
use Rattle.std.specs.FinMap.{insert}
use Rattle.aml_path.specs.declared.segment.Seg.{Seg}
use Rattle.aml_objects.specs.Objects.{Objects}
use Rattle.aml_objects.specs.declared.entry.BufferField.{BufferField}
use Rattle.aml_objects.specs.declared.entry.Field.TheVariants as field
use Rattle.aml_objects.specs.declared.entry.FieldUnit.{FieldUnit}
use Rattle.aml_objects.specs.declared.entry.Method.{Method}
use Rattle.aml_objects.specs.declared.entry.NamedObject.{NamedObject}
use Rattle.aml_objects.specs.declared.entry.NamedObject.TheVariants as named
use Rattle.aml_objects.specs.declared.entry.OperationRegion.{OperationRegion}
use Rattle.aml_objects.specs.declared.object.Element.{Element}
use Rattle.aml_objects.specs.declared.object.Element.TheVariants as element
use Rattle.aml_objects.specs.declared.object.Object.{Object}
use Rattle.aml_objects.specs.declared.object.Object.TheVariants as object
use Rattle.aml_objects.specs.declared.value.Reference.{Reference}
use Rattle.aml_objects.specs.declared.value.Reference.TheVariants as reference
use Rattle.aml_objects.specs.declared.value.Slot.{Slot}
use Rattle.aml_objects.specs.declared.value.Slot.TheVariants.{Local, Argument}
use Rattle.aml_objects.specs.declared.value.Value.{Value}
use Rattle.aml_objects.specs.declared.value.Value.TheVariants as value
use Rattle.aml_world.specs.declared.state.frame.Frame.{Frame}
use Rattle.aml_world.specs.declared.values.store_target.Held.{Held}
use Rattle.aml_world.specs.declared.values.store_target.Held.TheVariants as held
use Rattle.aml_world.specs.state.State.{State}
use Rattle.aml_world.specs.state.Slots.{slot_in}
use Rattle.aml_world.specs.values.Stores.{slot_put}
use Rattle.aml_laws.specs.Copied.{IsCopy}
use Rattle.aml_laws.specs.StoredNames.{data_entry}

-- ---- copies

-- a value is a copy of another, and these are the objects that were made for it, so many, behind all that were there
pub record CopyMade (before : Objects) (v copy : Value) (count : ℕ) (made : Objects) : Type 0 where
  pub is : IsCopy (length before) (before ++ made) v copy
  pub many : length made ≡ count

-- a slot takes what is stored to it itself: a local, and an argument that holds no reference
pub data TakesCopies (f : Frame) : Slot → Type 0 where
  a_local : (i : ℕ) → TakesCopies f (Local i)
  an_argument : (i : ℕ) → ((r : Reference) → slot_in f (Argument i) ≢ value.Reference r) → TakesCopies f (Argument i)

-- a slot of the frame at an index holds a copy then: nothing but the objects that were made and this slot is another. What `slot_put` does
-- the law of slots says
pub record SlotTakesCopy {S : Type 0} (before after : State S) (k : ℕ) (slot : Slot) (v : Value) (count : ℕ) : Type 0 where
  pub copy : Value
  pub made : Objects
  pub copied : CopyMade before.objects v copy count made
  pub put : after ≡ (slot_put k slot copy (record before { objects = before.objects ++ made })).1

-- an argument of the control method that runs, whose frame is the latest one, holds this
pub record ArgumentHolds {S : Type 0} (w : State S) (i last : ℕ) (old : Value) : Type 0 where
  pub latest : length w.frames ≡ suc last
  pub frame : Frame
  pub stands : slice_get w.frames last ≡ Some frame
  pub holds : slot_in frame (Argument i) ≡ old

-- an element of a package holds a copy then: nothing but the objects that were made and this element is another
pub record ElementTakesCopy {S : Type 0} (before after : State S) (o i : ℕ) (es : List Element) (v : Value) (count : ℕ) : Type 0 where
  pub copy : Value
  pub made : Objects
  pub copied : CopyMade before.objects v copy count made
  pub put : after ≡ record before { objects = slice_set (before.objects ++ made) o (object.Package (slice_set es i (element.Value copy))) }

-- a name holds a copy then, under the number of its declaration: nothing but the objects that were made and this name is another
pub record NameTakesCopy {S : Type 0} (before after : State S) (path : List Seg) (number : ℕ) (v : Value) (count : ℕ) : Type 0 where
  pub copy : Value
  pub made : Objects
  pub copied : CopyMade before.objects v copy count made
  pub put : after ≡ record before { names = record before.names { map = insert before.names.map path (data_entry number copy) }; objects = before.objects ++ made }

-- a name that holds the first value takes the second one from a Store as it is: a package in place of one, and anything in place of a
-- reference or of no value
pub data TakesUnconverted : Value → Value → Type 0 where
  for_package : (m o : ℕ) → TakesUnconverted (value.Package m) (value.Package o)
  for_reference : (r : Reference) (v : Value) → TakesUnconverted (value.Reference r) v
  for_no_value : (v : Value) → TakesUnconverted value.Uninitialized v

-- ---- bytes

-- what a byte takes of a value: an integer modulo 256, and the first byte of a string or of a buffer
pub data GivesByte {S : Type 0} (w : State S) : Value → ℕ → Type 0 where
  of_integer : (n : ℕ) → GivesByte w (value.Integer n) (n % 256)
  of_string : (o b : ℕ) (bytes : List ℕ) → slice_get w.objects o ≡ Some (object.String (b ∷ bytes)) → GivesByte w (value.String o) b
  of_buffer : (o b : ℕ) (bytes : List ℕ) → slice_get w.objects o ≡ Some (object.Buffer (b ∷ bytes)) → GivesByte w (value.Buffer o) b

-- an object with a byte at an index, and the object with another byte there
pub data ByteTaken (i b : ℕ) : Object → Object → Type 0 where
  in_string : (bytes : List ℕ) → i < length bytes → ByteTaken i b (object.String bytes) (object.String (slice_set bytes i b))
  in_buffer : (bytes : List ℕ) → i < length bytes → ByteTaken i b (object.Buffer bytes) (object.Buffer (slice_set bytes i b))

-- what is neither an integer nor a string nor a buffer
pub data IsNoData : Value → Type 0 where
  uninitialized : IsNoData value.Uninitialized
  a_package : (o : ℕ) → IsNoData (value.Package o)
  a_reference : (r : Reference) → IsNoData (value.Reference r)

-- ---- names

-- what a name stands for that holds neither a value nor the bits of a field
pub data HoldsNothing : NamedObject → Type 0 where
  scope : HoldsNothing named.Scope
  device : HoldsNothing named.Device
  processor : HoldsNothing named.Processor
  power_resource : HoldsNothing named.PowerResource
  thermal_zone : HoldsNothing named.ThermalZone
  method : (m : Method) → HoldsNothing (named.Method m)
  region : (r : OperationRegion) → HoldsNothing (named.OperationRegion r)
  mutex : (count : ℕ) → HoldsNothing (named.Mutex count)
  event : (count : ℕ) → HoldsNothing (named.Event count)

-- what is read through a reference to a name, by the number of its declaration: the value or the field that it stands for, and else the
-- reference again
pub data IsRead (number : ℕ) : NamedObject → Held → Type 0 where
  a_value : (v : Value) → IsRead number (named.Data v) (held.Value v)
  a_unit : (u : FieldUnit) → IsRead number (named.FieldUnit u) (held.Field (field.Unit u))
  a_buffer_field : (b : BufferField) → IsRead number (named.BufferField b) (held.Field (field.Buffer b))
  an_alias : (path : List Seg) → IsRead number (named.Alias path) (held.Value (value.Reference (reference.Name number)))
  no_data : (o : NamedObject) → HoldsNothing o → IsRead number o (held.Value (value.Reference (reference.Name number)))
