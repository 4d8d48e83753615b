-- Storing values (ACPI 6.5, 19.3.5.8 and 19.6: Store, CopyObject).
use Rattle.std.specs.Prelude.{ℕ, zero, suc, ◌%◌, List, [], ◌∷◌, Option, Some, None, Ok, Err, slice_get, slice_set}
use Rattle.ar_space.specs.declared.refusal.Refusal.TheVariants as refusal
use Rattle.ar_space.specs.declared.refusal.EvaluationFault.TheVariants.{DeadReference}
use Rattle.ar_space.specs.declared.refusal.ValueFault.TheVariants.{WrongType, EmptyValue}
use Rattle.ar_space.specs.Outcome.{Outcome}
use Rattle.ar_space.specs.Change.{Change, give, stop, ◌>>=◌}
use Rattle.aml_path.specs.declared.segment.Seg.{Seg}
use Rattle.aml_objects.specs.Contents.{Content, Integer, String, Buffer, Other, content_in}
use Rattle.aml_objects.specs.Copies.{copied}
use Rattle.aml_objects.specs.Objects.{write_string, write_buffer, element_there, write_element, byte_at, write_byte}
use Rattle.aml_objects.specs.declared.value.Value.{Value}
use Rattle.aml_objects.specs.declared.value.Value.TheVariants as value
use Rattle.aml_objects.specs.declared.value.Slot.{Slot}
use Rattle.aml_objects.specs.declared.value.Slot.TheVariants.{Local, Argument}
use Rattle.aml_objects.specs.declared.value.Reference.{Reference}
use Rattle.aml_objects.specs.declared.value.Reference.TheVariants as reference
use Rattle.aml_objects.specs.declared.object.Element.TheVariants as element
use Rattle.aml_objects.specs.declared.entry.NamedObject.TheVariants as object
use Rattle.aml_convert.specs.Conversions.{to_text_of, to_buffer_of}
use Rattle.aml_namespace.specs.Namespace.{replaced}
use Rattle.aml_world.specs.declared.state.frame.Frame.{Frame}
use Rattle.aml_world.specs.declared.values.store_target.StoreTarget.{StoreTarget}
use Rattle.aml_world.specs.declared.values.store_target.StoreTarget.TheVariants as targets
use Rattle.aml_world.specs.declared.values.store_target.Holding.{Holding}
use Rattle.aml_world.specs.declared.values.store_target.Holding.TheVariants as holding
use Rattle.aml_world.specs.declared.values.store_target.Stored.{Stored}
use Rattle.aml_world.specs.declared.values.store_target.Stored.TheVariants as store
use Rattle.aml_world.specs.state.State.{State, on_objects, on_names}
use Rattle.aml_world.specs.state.Slots.{with_slot}
use Rattle.aml_world.specs.state.Readings.{integer_in}
use Rattle.aml_world.specs.values.StoreTargets.{held_at, latest_frame, frame_found, slot_held, declaration, holding_of, most_references}

-- ---- copies, without conversion, packages deeply

abbrev pub with_frame : Option Frame → ℕ → Slot → Value → List Frame → List Frame
with_frame None k slot v frames = frames
with_frame (Some f) k slot v frames = slice_set frames k (with_slot f slot v)

-- a slot of the frame at an index
unfoldable pub slot_put : {S : Type 0} → ℕ → Slot → Value → Change (State S) (Unit {0})
slot_put k slot v w = (Ok tt, record w { frames = with_frame (slice_get w.frames k) k slot v w.frames })

unfoldable pub copy_into_slot : {S : Type 0} → ℕ → Slot → Value → Change (State S) Stored
copy_into_slot k slot v = do
  c ← on_objects (copied v)
  put ← slot_put k slot c
  give store.Done

unfoldable pub copy_into_name : {S : Type 0} → List Seg → Value → Change (State S) Stored
copy_into_name p v = do
  c ← on_objects (copied v)
  put ← on_names (replaced p (object.Data c))
  give store.Done

unfoldable pub copy_into_element : {S : Type 0} → ℕ → ℕ → Value → Change (State S) Stored
copy_into_element o i v = do
  there ← on_objects (element_there o i)
  c ← on_objects (copied v)
  put ← on_objects (write_element o i (element.Value c))
  give store.Done

-- a name that holds a value holds a copy of another; a field is written next
abbrev pub copy_over : {S : Type 0} → Holding → List Seg → Value → Change (State S) Stored
copy_over (holding.Value old) p v = copy_into_name p v
copy_over (holding.Field f) p v = give (store.Field f)
copy_over holding.Nothing p v = stop (refusal.Value WrongType)

-- ---- stores with conversion to what the name holds

-- a value as a string, and as a buffer
unfoldable pub text_in : {S : Type 0} → Value → Change (State S) (List ℕ)
text_in v w = (to_text_of w.width (content_in w.objects v), w)

unfoldable pub bytes_in : {S : Type 0} → Value → Change (State S) (List ℕ)
bytes_in v w = (to_buffer_of w.width (content_in w.objects v), w)

unfoldable pub store_integer : {S : Type 0} → List Seg → Value → Change (State S) Stored
store_integer p v = do
  n ← integer_in v
  put ← on_names (replaced p (object.Data (value.Integer n)))
  give store.Done

unfoldable pub store_text : {S : Type 0} → ℕ → Value → Change (State S) Stored
store_text o v = do
  bytes ← text_in v
  put ← on_objects (write_string o bytes)
  give store.Done

unfoldable pub store_bytes : {S : Type 0} → ℕ → Value → Change (State S) Stored
store_bytes o v = do
  bytes ← bytes_in v
  put ← on_objects (write_buffer o bytes)
  give store.Done

-- a package takes a package alone
abbrev pub store_package : {S : Type 0} → List Seg → Value → Change (State S) Stored
store_package p (value.Package o) = copy_into_name p (value.Package o)
store_package p value.Uninitialized = stop (refusal.Value WrongType)
store_package p (value.Integer n) = stop (refusal.Value WrongType)
store_package p (value.String o) = stop (refusal.Value WrongType)
store_package p (value.Buffer o) = stop (refusal.Value WrongType)
store_package p (value.Reference r) = stop (refusal.Value WrongType)

abbrev pub store_over_value : {S : Type 0} → Value → List Seg → Value → Change (State S) Stored
store_over_value (value.Integer n) p v = store_integer p v
store_over_value (value.String o) p v = store_text o v
store_over_value (value.Buffer o) p v = store_bytes o v
store_over_value (value.Package o) p v = store_package p v
store_over_value (value.Reference r) p v = copy_into_name p v
store_over_value value.Uninitialized p v = copy_into_name p v

abbrev pub store_over : {S : Type 0} → Holding → List Seg → Value → Change (State S) Stored
store_over (holding.Value old) p v = store_over_value old p v
store_over (holding.Field f) p v = give (store.Field f)
store_over holding.Nothing p v = stop (refusal.Value WrongType)

-- ---- stores through references: the reference is tested first, then the value is taken, and then it is written

-- what a byte takes of a value: an integer modulo 256, or the first byte
abbrev pub first_byte : List ℕ → Outcome ℕ
first_byte [] = Err (refusal.Value EmptyValue)
first_byte (b ∷ bs) = Ok b

abbrev pub byte_of : Content → Outcome ℕ
byte_of (Integer n) = Ok (n % 256)
byte_of (String bs) = first_byte bs
byte_of (Buffer bs) = first_byte bs
byte_of Other = Err (refusal.Value WrongType)

unfoldable pub byte_in : {S : Type 0} → Value → Change (State S) ℕ
byte_in v w = (byte_of (content_in w.objects v), w)

unfoldable pub store_byte : {S : Type 0} → ℕ → ℕ → Value → Change (State S) Stored
store_byte o i v = do
  old ← on_objects (byte_at o i)
  b ← byte_in v
  put ← on_objects (write_byte o i b)
  give store.Done

-- a name that an argument refers to takes a copy
unfoldable pub copy_into_declared : {S : Type 0} → ℕ → Value → Change (State S) Stored
copy_into_declared n v = do
  e ← declaration n
  copy_over (holding_of e.1.object) e.0 v

-- with conversion to what the name holds
unfoldable pub store_in_declared : {S : Type 0} → ℕ → Value → Change (State S) Stored
store_in_declared n v = do
  e ← declaration n
  store_over (holding_of e.1.object) e.0 v

-- through: how a value is stored to what a reference refers to
module _ {S : Type 0} (through : Reference → Value → Change (State S) Stored) where
  -- an argument that holds a reference stands for what that refers to
  abbrev pub store_over_slot : ℕ → Slot → Value → Value → Change (State S) Stored
  store_over_slot k (Local i) held v = copy_into_slot k (Local i) v
  store_over_slot k (Argument i) (value.Reference r) v = through r v
  store_over_slot k (Argument i) value.Uninitialized v = copy_into_slot k (Argument i) v
  store_over_slot k (Argument i) (value.Integer n) v = copy_into_slot k (Argument i) v
  store_over_slot k (Argument i) (value.String o) v = copy_into_slot k (Argument i) v
  store_over_slot k (Argument i) (value.Buffer o) v = copy_into_slot k (Argument i) v
  store_over_slot k (Argument i) (value.Package o) v = copy_into_slot k (Argument i) v

  unfoldable pub store_in_frame : ℕ → Slot → Value → Change (State S) Stored
  store_in_frame k slot v = do
    held ← slot_held k slot
    store_over_slot k slot held v

  unfoldable pub store_in_frame_numbered : ℕ → Slot → Value → Change (State S) Stored
  store_in_frame_numbered n slot v = do
    k ← frame_found n
    store_in_frame k slot v

  abbrev pub store_at_reference : Reference → Value → Change (State S) Stored
  store_at_reference (reference.Name n) v = copy_into_declared n v
  store_at_reference (reference.Slot slot n) v = store_in_frame_numbered n slot v
  store_at_reference (reference.Element o i) v = copy_into_element o i v
  store_at_reference (reference.Byte o i) v = store_byte o i v

-- at most so many references one after another
unfoldable pub stored_through : {S : Type 0} → ℕ → Reference → Value → Change (State S) Stored
stored_through zero r v = stop (refusal.Evaluation DeadReference)
stored_through (suc n) r v = store_at_reference (stored_through n) r v

-- a store to what a reference refers to converts; only an argument that is met on the way copies without conversion
abbrev pub store_to : {S : Type 0} → Reference → Value → Change (State S) Stored
store_to (reference.Name n) v = store_in_declared n v
store_to (reference.Slot slot n) v = store_in_frame_numbered (stored_through most_references) n slot v
store_to (reference.Element o i) v = copy_into_element o i v
store_to (reference.Byte o i) v = store_byte o i v

-- ---- stores to targets

unfoldable pub store_in_slot : {S : Type 0} → Slot → Value → Change (State S) Stored
store_in_slot slot v = do
  k ← latest_frame
  store_in_frame (stored_through most_references) k slot v

unfoldable pub store_in_name : {S : Type 0} → List Seg → Value → Change (State S) Stored
store_in_name p v = do
  h ← held_at p
  store_over h p v

-- Store: with conversion to what a name holds
abbrev pub stored : {S : Type 0} → StoreTarget → Value → Change (State S) Stored
stored targets.Nowhere v = give store.Done
stored (targets.Slot slot) v = store_in_slot slot v
stored (targets.Name p) v = store_in_name p v
stored (targets.Refers r) v = store_to r v

-- CopyObject: a name that holds a value takes a copy
unfoldable pub copy_in_name : {S : Type 0} → List Seg → Value → Change (State S) Stored
copy_in_name p v = do
  h ← held_at p
  copy_over h p v

abbrev pub copied_to : {S : Type 0} → StoreTarget → Value → Change (State S) Stored
copied_to targets.Nowhere v = give store.Done
copied_to (targets.Slot slot) v = store_in_slot slot v
copied_to (targets.Name p) v = copy_in_name p v
copied_to (targets.Refers r) v = stored_through most_references r v
