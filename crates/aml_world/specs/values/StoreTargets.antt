-- Where values are stored, and what stands there (ACPI 6.5, 19.3.5 and 20.2.2: SuperName, Target).
use Rattle.std.specs.Prelude.{ℕ, zero, suc, List, length, Option, Some, None, Ok, Err, slice_get, Bool, true, false}
use Rattle.std.specs.FinMap.{get}
use Rattle.ar_space.specs.declared.refusal.Refusal.TheVariants as refusal
use Rattle.ar_space.specs.declared.refusal.EvaluationFault.TheVariants.{DeadReference, NoValue}
use Rattle.ar_space.specs.declared.refusal.NamespaceFault.TheVariants.{NotFound}
use Rattle.ar_space.specs.declared.refusal.ValueFault.TheVariants.{WrongType}
use Rattle.ar_space.specs.Outcome.{Outcome, seen}
use Rattle.ar_space.specs.Change.{Change, give, stop, settle, ◌>>=◌}
use Rattle.aml_path.specs.declared.segment.Seg.{Seg}
use Rattle.aml_path.specs.Paths.{Name}
use Rattle.aml_objects.specs.declared.value.Value.{Value}
use Rattle.aml_objects.specs.declared.value.Value.TheVariants as value
use Rattle.aml_objects.specs.declared.value.Slot.{Slot}
use Rattle.aml_objects.specs.declared.value.Reference.{Reference}
use Rattle.aml_objects.specs.declared.value.Reference.TheVariants as reference
use Rattle.aml_objects.specs.declared.object.Element.{Element}
use Rattle.aml_objects.specs.declared.object.Element.TheVariants as element
use Rattle.aml_objects.specs.declared.entry.Entry.{Entry}
use Rattle.aml_objects.specs.declared.entry.Field.TheVariants as field
use Rattle.aml_objects.specs.declared.entry.NamedObject.{NamedObject}
use Rattle.aml_objects.specs.declared.entry.NamedObject.TheVariants as object
use Rattle.aml_objects.specs.Objects.{element_there, element_at, byte_at}
use Rattle.aml_namespace.specs.Namespace.{numbered}
use Rattle.aml_namespace.specs.Search.{found}
use Rattle.aml_world.specs.declared.state.frame.Frame.{Frame}
use Rattle.aml_world.specs.declared.values.store_target.StoreTarget.{StoreTarget}
use Rattle.aml_world.specs.declared.values.store_target.StoreTarget.TheVariants as targets
use Rattle.aml_world.specs.declared.values.store_target.Holding.{Holding}
use Rattle.aml_world.specs.declared.values.store_target.Holding.TheVariants as holding
use Rattle.aml_world.specs.declared.values.store_target.Held.{Held}
use Rattle.aml_world.specs.declared.values.store_target.Held.TheVariants as held
use Rattle.aml_world.specs.declared.values.object_type.ObjectType.TheVariants as types
use Rattle.aml_world.specs.declared.values.object_type.Referent.{Referent}
use Rattle.aml_world.specs.declared.values.object_type.Referent.TheVariants as referent
use Rattle.aml_world.specs.state.State.{State, on_objects}
use Rattle.aml_world.specs.state.Slots.{frame_index, slot_at}
use Rattle.aml_world.specs.state.Readings.{entry_found, read_as, path_found}

-- ---- what a name holds

abbrev pub holding_of : NamedObject → Holding
holding_of (object.Data v) = holding.Value v
holding_of (object.FieldUnit u) = holding.Field (field.Unit u)
holding_of (object.BufferField b) = holding.Field (field.Buffer b)
holding_of _ = holding.Nothing

abbrev pub holding_in : Option Entry → Outcome Holding
holding_in None = Err (refusal.Namespace NotFound)
holding_in (Some e) = Ok (holding_of e.object)

-- what the name at a path holds
unfoldable pub held_at : {S : Type 0} → List Seg → Change (State S) Holding
held_at p w = (holding_in (get w.names.map p), w)

-- ---- frames

abbrev pub last_index : ℕ → Option ℕ
last_index zero = None
last_index (suc n) = Some n

abbrev pub or_ended : Option ℕ → Outcome ℕ
or_ended None = Err (refusal.Evaluation DeadReference)
or_ended (Some k) = Ok k

-- the index of the frame of the control method that runs, and of the frame with a number
unfoldable pub latest_frame : {S : Type 0} → Change (State S) ℕ
latest_frame w = (or_ended (last_index (length w.frames)), w)

unfoldable pub frame_found : {S : Type 0} → ℕ → Change (State S) ℕ
frame_found n w = (or_ended (frame_index n w.frames), w)

-- what a slot of the frame at an index holds
unfoldable pub slot_held : {S : Type 0} → ℕ → Slot → Change (State S) Value
slot_held k slot w = (slot_at slot w.frames (Some k), w)

-- what a slot of the control method that runs holds
unfoldable pub own_slot : {S : Type 0} → Slot → Change (State S) Value
own_slot slot = do
  k ← latest_frame
  slot_held k slot

-- a value that is read
abbrev pub initialized : Value → Outcome Value
initialized value.Uninitialized = Err (refusal.Evaluation NoValue)
initialized (value.Integer n) = Ok (value.Integer n)
initialized (value.String o) = Ok (value.String o)
initialized (value.Buffer o) = Ok (value.Buffer o)
initialized (value.Package o) = Ok (value.Package o)
initialized (value.Reference r) = Ok (value.Reference r)

unfoldable pub slot_read : {S : Type 0} → Slot → Change (State S) Value
slot_read slot = do
  v ← own_slot slot
  settle (initialized v)

-- ---- what a reference refers to

-- the declaration with a number, while it stands
abbrev pub or_gone : Option (List Seg × Entry) → Outcome (List Seg × Entry)
or_gone None = Err (refusal.Evaluation DeadReference)
or_gone (Some e) = Ok e

unfoldable pub declaration : {S : Type 0} → ℕ → Change (State S) (List Seg × Entry)
declaration n w = (or_gone (numbered n w.names.map), w)

-- what stands under it, without its path
unfoldable pub entry_declared : {S : Type 0} → ℕ → Change (State S) Entry
entry_declared n w = (seen (λ e. e.1) (or_gone (numbered n w.names.map)), w)

-- what it refers to still stands: a name, a frame, an element of a package, a byte of a string or a buffer
unfoldable pub name_tested : {S : Type 0} → ℕ → Change (State S) (Unit {0})
name_tested n = do
  e ← declaration n
  give tt

unfoldable pub frame_tested : {S : Type 0} → ℕ → Change (State S) (Unit {0})
frame_tested n = do
  k ← frame_found n
  give tt

unfoldable pub byte_tested : {S : Type 0} → ℕ → ℕ → Change (State S) (Unit {0})
byte_tested o i = do
  b ← on_objects (byte_at o i)
  give tt

abbrev pub tested : {S : Type 0} → Reference → Change (State S) (Unit {0})
tested (reference.Name n) = name_tested n
tested (reference.Slot slot n) = frame_tested n
tested (reference.Element o i) = on_objects (element_there o i)
tested (reference.Byte o i) = byte_tested o i

-- what a name holds, one step on: a reference that it holds is the value, and a name without a value is a reference to it again
abbrev pub once : ℕ → NamedObject → Held
once n (object.Data v) = held.Value v
once n (object.FieldUnit u) = held.Field (field.Unit u)
once n (object.BufferField b) = held.Field (field.Buffer b)
once n _ = held.Value (value.Reference (reference.Name n))

unfoldable pub declared_once : {S : Type 0} → ℕ → Change (State S) Held
declared_once n = do
  e ← declaration n
  give (once n e.1.object)

unfoldable pub value_once : {S : Type 0} → Value → Change (State S) Held
value_once v = do
  x ← settle (initialized v)
  give (held.Value x)

unfoldable pub slot_once : {S : Type 0} → ℕ → Slot → Change (State S) Held
slot_once n slot = do
  k ← frame_found n
  v ← slot_held k slot
  value_once v

-- a name in a package is searched for at each use: its data or its field, and else a reference to it
abbrev pub named_once : ℕ → NamedObject → Held
named_once n (object.Data v) = held.Value (read_as n v)
named_once n (object.FieldUnit u) = held.Field (field.Unit u)
named_once n (object.BufferField b) = held.Field (field.Buffer b)
named_once n _ = held.Value (value.Reference (reference.Name n))

unfoldable pub name_once : {S : Type 0} → Name → List Seg → Change (State S) Held
name_once n scope = do
  e ← entry_found scope n
  give (named_once e.number e.object)

abbrev pub element_once : {S : Type 0} → Element → Change (State S) Held
element_once (element.Value v) = value_once v
element_once (element.Name n scope) = name_once n scope

unfoldable pub held_once : {S : Type 0} → ℕ → ℕ → Change (State S) Held
held_once o i = do
  e ← on_objects (element_at o i)
  element_once e

unfoldable pub byte_once : {S : Type 0} → ℕ → ℕ → Change (State S) Held
byte_once o i = do
  b ← on_objects (byte_at o i)
  give (held.Value (value.Integer b))

-- what a reference refers to, one step on (DerefOf)
abbrev pub dereferenced : {S : Type 0} → Reference → Change (State S) Held
dereferenced (reference.Name n) = declared_once n
dereferenced (reference.Slot slot n) = slot_once n slot
dereferenced (reference.Element o i) = held_once o i
dereferenced (reference.Byte o i) = byte_once o i

-- ---- what a target holds (Increment and Decrement read there and store there)

abbrev pub held_in : Holding → Outcome Held
held_in (holding.Value v) = Ok (held.Value v)
held_in (holding.Field f) = Ok (held.Field f)
held_in holding.Nothing = Err (refusal.Value WrongType)

unfoldable pub name_read : {S : Type 0} → List Seg → Change (State S) Held
name_read p = do
  h ← held_at p
  settle (held_in h)

unfoldable pub held_in_slot : {S : Type 0} → Slot → Change (State S) Held
held_in_slot slot = do
  v ← slot_read slot
  give (held.Value v)

abbrev pub target_read : {S : Type 0} → StoreTarget → Change (State S) Held
target_read targets.Nowhere = stop (refusal.Value WrongType)
target_read (targets.Slot slot) = held_in_slot slot
target_read (targets.Name p) = name_read p
target_read (targets.Refers r) = dereferenced r

-- ---- references to targets (RefOf, CondRefOf)

abbrev pub number_in_frame : Option Frame → Outcome ℕ
number_in_frame None = Err (refusal.Evaluation DeadReference)
number_in_frame (Some f) = Ok f.number

unfoldable pub frame_number : {S : Type 0} → ℕ → Change (State S) ℕ
frame_number k w = (number_in_frame (slice_get w.frames k), w)

unfoldable pub slot_reference : {S : Type 0} → Slot → Change (State S) Reference
slot_reference slot = do
  k ← latest_frame
  n ← frame_number k
  give (reference.Slot slot n)

abbrev pub number_in_entry : Option Entry → Outcome ℕ
number_in_entry None = Err (refusal.Namespace NotFound)
number_in_entry (Some e) = Ok e.number

unfoldable pub declared_number : {S : Type 0} → List Seg → Change (State S) ℕ
declared_number p w = (number_in_entry (get w.names.map p), w)

unfoldable pub name_reference : {S : Type 0} → List Seg → Change (State S) Reference
name_reference p = do
  n ← declared_number p
  give (reference.Name n)

-- a reference to what a target names; Debug has none
abbrev pub reference_of : {S : Type 0} → StoreTarget → Change (State S) Reference
reference_of targets.Nowhere = stop (refusal.Value WrongType)
reference_of (targets.Slot slot) = slot_reference slot
reference_of (targets.Name p) = name_reference p
reference_of (targets.Refers r) = give r

-- a reference, unless what it refers to holds no value yet
abbrev pub unless_empty : Value → Reference → Option Reference
unless_empty value.Uninitialized r = None
unless_empty (value.Integer n) r = Some r
unless_empty (value.String o) r = Some r
unless_empty (value.Buffer o) r = Some r
unless_empty (value.Package o) r = Some r
unless_empty (value.Reference x) r = Some r

unfoldable pub slot_initialized : {S : Type 0} → ℕ → Slot → Change (State S) (Option Reference)
slot_initialized n slot = do
  k ← frame_found n
  v ← slot_held k slot
  give (unless_empty v (reference.Slot slot n))

abbrev pub unless_empty_element : Element → Reference → Option Reference
unless_empty_element (element.Value v) r = unless_empty v r
unless_empty_element (element.Name n scope) r = Some r

unfoldable pub element_initialized : {S : Type 0} → ℕ → ℕ → Change (State S) (Option Reference)
element_initialized o i = do
  e ← on_objects (element_at o i)
  give (unless_empty_element e (reference.Element o i))

abbrev pub if_initialized : {S : Type 0} → Reference → Change (State S) (Option Reference)
if_initialized (reference.Name n) = give (Some (reference.Name n))
if_initialized (reference.Slot slot n) = slot_initialized n slot
if_initialized (reference.Element o i) = element_initialized o i
if_initialized (reference.Byte o i) = give (Some (reference.Byte o i))

-- a reference to the name that is found; none where it isn't, and any other refusal stays
abbrev pub where_found : Outcome Entry → Outcome (Option Reference)
where_found (Ok e) = Ok (Some (reference.Name e.number))
where_found (Err (refusal.Namespace NotFound)) = Ok None
where_found (Err e) = Err e

unfoldable pub reference_if_found : {S : Type 0} → List Seg → Name → Change (State S) (Option Reference)
reference_if_found scope n w = (where_found (seen (λ f. f.1) (found w.names.map scope n)), w)

-- ---- what a reference refers to in the end (SizeOf and ObjectType)

-- the type of what holds no value
abbrev pub referent_of : NamedObject → Referent
referent_of (object.Data v) = referent.Value v
referent_of object.Scope = referent.Object types.Uninitialized
referent_of object.Device = referent.Object types.Device
referent_of object.Processor = referent.Object types.Processor
referent_of object.PowerResource = referent.Object types.PowerResource
referent_of object.ThermalZone = referent.Object types.ThermalZone
referent_of (object.Method m) = referent.Object types.Method
referent_of (object.OperationRegion r) = referent.Object types.OperationRegion
referent_of (object.FieldUnit u) = referent.Object types.FieldUnit
referent_of (object.BufferField b) = referent.Object types.BufferField
referent_of (object.Mutex n) = referent.Object types.Mutex
referent_of (object.Event n) = referent.Object types.Event
referent_of (object.Alias p) = referent.Object types.Uninitialized

-- a byte of a string or a buffer is a buffer field
unfoldable pub byte_followed : {S : Type 0} → ℕ → ℕ → Change (State S) Referent
byte_followed o i = do
  b ← on_objects (byte_at o i)
  give (referent.Object types.BufferField)

-- follow: what a reference refers to in the end
module _ {S : Type 0} (follow : Reference → Change (State S) Referent) where
  abbrev pub value_followed : Value → Change (State S) Referent
  value_followed value.Uninitialized = give (referent.Value value.Uninitialized)
  value_followed (value.Integer n) = give (referent.Value (value.Integer n))
  value_followed (value.String o) = give (referent.Value (value.String o))
  value_followed (value.Buffer o) = give (referent.Value (value.Buffer o))
  value_followed (value.Package o) = give (referent.Value (value.Package o))
  value_followed (value.Reference r) = follow r

  abbrev pub referent_followed : Referent → Change (State S) Referent
  referent_followed (referent.Value v) = value_followed v
  referent_followed (referent.Object t) = give (referent.Object t)
  referent_followed (referent.Field f) = give (referent.Field f)
  referent_followed (referent.Bytes n) = give (referent.Bytes n)

  unfoldable pub declared_followed : ℕ → Change (State S) Referent
  declared_followed n = do
    e ← declaration n
    referent_followed (referent_of e.1.object)

  unfoldable pub slot_followed : ℕ → Slot → Change (State S) Referent
  slot_followed n slot = do
    k ← frame_found n
    v ← slot_held k slot
    value_followed v

  -- a name in a package stands for the value of its data or of its field, which is read next, and else for a reference to the name
  abbrev pub element_named : ℕ → NamedObject → Change (State S) Referent
  element_named n (object.Data v) = value_followed (read_as n v)
  element_named n (object.FieldUnit u) = give (referent.Field (field.Unit u))
  element_named n (object.BufferField b) = give (referent.Field (field.Buffer b))
  element_named n _ = follow (reference.Name n)

  -- it is searched for at each use
  unfoldable pub name_followed : Name → List Seg → Change (State S) Referent
  name_followed n scope = do
    e ← entry_found scope n
    element_named e.number e.object

  abbrev pub element_followed : Element → Change (State S) Referent
  element_followed (element.Value v) = value_followed v
  element_followed (element.Name n scope) = name_followed n scope

  unfoldable pub held_followed : ℕ → ℕ → Change (State S) Referent
  held_followed o i = do
    e ← on_objects (element_at o i)
    element_followed e

  abbrev pub reference_followed : Reference → Change (State S) Referent
  reference_followed (reference.Name n) = declared_followed n
  reference_followed (reference.Slot slot n) = slot_followed n slot
  reference_followed (reference.Element o i) = held_followed o i
  reference_followed (reference.Byte o i) = byte_followed o i

-- at most so many references one after another
unfoldable pub followed : {S : Type 0} → ℕ → Reference → Change (State S) Referent
followed zero r = stop (refusal.Evaluation DeadReference)
followed (suc n) r = reference_followed (followed n) r

abbrev pub most_references : ℕ
most_references = 64

-- what a target holds, references followed
unfoldable pub slot_referent : {S : Type 0} → Slot → Change (State S) Referent
slot_referent slot = do
  v ← own_slot slot
  value_followed (followed most_references) v

abbrev pub referent_in : Option Entry → Outcome Referent
referent_in None = Err (refusal.Namespace NotFound)
referent_in (Some e) = Ok (referent_of e.object)

unfoldable pub declared_referent : {S : Type 0} → List Seg → Change (State S) Referent
declared_referent p w = (referent_in (get w.names.map p), w)

unfoldable pub name_referent : {S : Type 0} → List Seg → Change (State S) Referent
name_referent p = do
  r ← declared_referent p
  referent_followed (followed most_references) r

abbrev pub target_referent : {S : Type 0} → StoreTarget → Change (State S) Referent
target_referent targets.Nowhere = give (referent.Object types.DebugObject)
target_referent (targets.Slot slot) = slot_referent slot
target_referent (targets.Name p) = name_referent p
target_referent (targets.Refers r) = followed most_references r

-- the target that a name stands for
unfoldable pub target_named : {S : Type 0} → List Seg → Name → Change (State S) StoreTarget
target_named scope n = do
  p ← path_found scope n
  give (targets.Name p)

-- the reference that a value is
abbrev pub reference_in : Value → Outcome Reference
reference_in (value.Reference r) = Ok r
reference_in value.Uninitialized = Err (refusal.Value WrongType)
reference_in (value.Integer n) = Err (refusal.Value WrongType)
reference_in (value.String o) = Err (refusal.Value WrongType)
reference_in (value.Buffer o) = Err (refusal.Value WrongType)
reference_in (value.Package o) = Err (refusal.Value WrongType)

-- whether a target is an element of a package
abbrev pub is_element : StoreTarget → Bool
is_element (targets.Refers (reference.Element o i)) = true
is_element (targets.Refers (reference.Name n)) = false
is_element (targets.Refers (reference.Slot slot n)) = false
is_element (targets.Refers (reference.Byte o i)) = false
is_element targets.Nowhere = false
is_element (targets.Slot slot) = false
is_element (targets.Name p) = false
