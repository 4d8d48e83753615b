-- What becomes of the operation regions, of the field units in them and of the register space in an evaluation, change by change (ACPI 6.5,
-- 5.5.2.4 and 19.6: Field, IndexField, BankField).
use Rattle.std.specs.Prelude.{◌≡◌, ◌⊎◌, ◌≤◌, ◌<◌, ℕ, ◌+◌, ◌-◌, List, [], ◌∷◌, ◌++◌, length, take, replicate, Contains, Result, Some, None, true, false, if◌then◌else◌}
use Rattle.std.specs.List.{All}
use Rattle.std.specs.FinMap.{get, insert, contains_key}
use Rattle.ar_space.specs.declared.refusal.SpaceFault.{SpaceFault}
use Rattle.ar_space.specs.declared.space.Width.{Width}
use Rattle.ar_space.specs.declared.space.Place.{Place}
use Rattle.ar_space.specs.Accesses.{Accesses}
use Rattle.recorded_space.specs.declared.exchange.Exchange.{Exchange}
use Rattle.recorded_space.specs.declared.exchange.Exchange.TheVariants.{Read, Write}
use Rattle.aml_path.specs.declared.segment.Seg.{Seg}
use Rattle.aml_path.specs.Paths.{is_below}
use Rattle.aml_objects.specs.declared.entry.Bank.{Bank}
use Rattle.aml_objects.specs.declared.entry.Entry.{Entry}
use Rattle.aml_objects.specs.declared.entry.FieldSource.{FieldSource}
use Rattle.aml_objects.specs.declared.entry.FieldSource.TheVariants as sources
use Rattle.aml_objects.specs.declared.entry.FieldUnit.{FieldUnit}
use Rattle.aml_objects.specs.declared.entry.Method.{Method}
use Rattle.aml_objects.specs.declared.entry.NamedObject.{NamedObject}
use Rattle.aml_objects.specs.declared.entry.NamedObject.TheVariants as object
use Rattle.aml_objects.specs.declared.entry.OperationRegion.{OperationRegion}
use Rattle.aml_objects.specs.declared.value.Value.{Value}
use Rattle.aml_objects.specs.declared.value.Value.TheVariants as values
use Rattle.aml_namespace.specs.Namespace.{Map, Namespace}
use Rattle.aml_world.specs.declared.state.profile.Profile.TheVariants as profiles
use Rattle.aml_world.specs.state.State.{State}
use Rattle.aml_laws.specs.Kinds.{KeepsKinds}
use Rattle.aml_laws.specs.Noted.{WithNotes}
use Rattle.aml_laws.specs.Numbers.{numbers_of}
use Rattle.aml_laws.specs.Outside.{OutsideIn}
use Rattle.aml_laws.specs.RegionAccesses.{LiesWithin, ReachesUnit, AsksBridge}
use Rattle.aml_laws.specs.RegionFunctions.{IsAtFunction}

-- what was declared under a number
abbrev pub numbered_entry : ℕ → NamedObject → Entry
numbered_entry n o = record { number = n; object = o }

-- with a new declaration, which takes the next number
abbrev pub with_declaration : List Seg → NamedObject → Namespace → Namespace
with_declaration path o names = record { map = insert names.map path (numbered_entry names.next o); next = names.next + 1 }

-- an operation region stands at a path, under the number of its declaration
abbrev pub RegionAt : Map → List Seg → ℕ → OperationRegion → Type 0
RegionAt names path number region = get names path ≡ Some (numbered_entry number (object.OperationRegion region))

pub record RegionStands (names : Map) (region : OperationRegion) : Type 0 where
  pub path : List Seg
  pub number : ℕ
  pub there : RegionAt names path number region

-- a field unit stands at a path, under the number of its declaration
abbrev pub FieldUnitAt : Map → List Seg → ℕ → FieldUnit → Type 0
FieldUnitAt names path number field = get names path ≡ Some (numbered_entry number (object.FieldUnit field))

pub record FieldUnitStands (names : Map) (field : FieldUnit) : Type 0 where
  pub path : List Seg
  pub number : ℕ
  pub there : FieldUnitAt names path number field

-- A field unit of a Field or of a BankField lies in the operation region with this number. One of an IndexField lies in no region: its index
-- field and its data field are accessed, and these lie in regions.
pub data LiesInRegion : FieldSource → ℕ → Type 0 where
  by_field : (n : ℕ) → LiesInRegion (sources.Region n) n
  by_bank_field : (n : ℕ) (bank : Bank) → LiesInRegion (sources.Bank n bank) n

-- an access of a field unit: one of its units, in the region that it lies in, and wholly within that region
pub record IsOfField (names : Map) (field : FieldUnit) (region : OperationRegion) (stands : RegionStands names region) (at : Place) (width : Width) : Type 0 where
  pub lies : LiesInRegion field.source stands.number
  pub reaches : ReachesUnit field region at width
  pub within : LiesWithin region at width

-- the scope that something at a path stands in: all segments of the path but the last
abbrev pub scope_of : List Seg → List Seg
scope_of path = take (length path - 1) path

-- what may take the place of an object, under its name and its number: another value, or another count of a mutex or of an event
pub data TakesPlaceOf : NamedObject → NamedObject → Type 0 where
  of_value : (new old : Value) → TakesPlaceOf (object.Data new) (object.Data old)
  of_mutex : (new old : ℕ) → TakesPlaceOf (object.Mutex new) (object.Mutex old)
  of_event : (new old : ℕ) → TakesPlaceOf (object.Event new) (object.Event old)

-- what stands at a path stands there in other names, too, under the same number: the same object, or one that may take its place
pub record StandsAlike (names : Map) (path : List Seg) (entry : Entry) : Type 0 where
  pub other : NamedObject
  pub there : get names path ≡ Some (numbered_entry entry.number other)
  pub alike : (entry.object ≡ other) ⊎ TakesPlaceOf entry.object other

-- what a world was given at its start
pub record SameSettings {S : Type 0} (before after : State S) : Type 0 where
  pub profile : after.profile ≡ before.profile
  pub width : after.width ≡ before.width
  pub osi : after.osi ≡ before.osi
  pub nesting : after.nesting ≡ before.nesting

-- A change of values: no register is accessed, and the same names stand as before, under the same numbers. The object under a name is the same,
-- or one that may take its place. No string, buffer or package goes or becomes one of another kind, and the same frames stand.
pub record NothingNew {S : Type 0} (before after : State S) : Type 0 where
  pub space : after.space ≡ before.space
  pub next : after.names.next ≡ before.names.next
  pub settings : SameSettings before after
  pub stood : (path : List Seg) (entry : Entry) → get after.names.map path ≡ Some entry → StandsAlike before.names.map path entry
  pub stand : (path : List Seg) (entry : Entry) → get before.names.map path ≡ Some entry → contains_key after.names.map path ≡ true
  pub objects : KeepsKinds before.objects after.objects
  pub frames : numbers_of after.frames ≡ numbers_of before.frames
  pub started : after.started ≡ before.started

-- with a frame more, which has the next number and whose locals hold nothing, and without the last one
abbrev pub with_frame : {S : Type 0} → List Value → State S → State S
with_frame arguments w = record w { frames = w.frames ++ record { number = w.started; locals = replicate 8 values.Uninitialized; arguments = arguments } ∷ []; started = w.started + 1 }

abbrev pub without_frame : {S : Type 0} → State S → State S
without_frame w = record w { frames = take (length w.frames - 1) w.frames }

-- a control method stands at a path
pub record MethodStands (names : Map) (path : List Seg) : Type 0 where
  pub number : ℕ
  pub method : Method
  pub there : get names path ≡ Some (numbered_entry number (object.Method method))

-- the names below a path are gone, and no others
pub record GoneBelow (path : List Seg) (before after : Namespace) : Type 0 where
  pub next : after.next ≡ before.next
  pub names : (q : List Seg) → get after.map q ≡ (if is_below path q then None else get before.map q)

-- The changes from one world to another, one by one. The list holds the field units that stood in a world so far; only their registers are
-- accessed, and the law starts with an empty list. A field unit that stands in a world may join the list (`field_stands`). A name is declared
-- where none stands, and takes the next number. Names are removed where a call ends, and they are those below its control method, which
-- stood when the call began (`call_ended`). A frame is closed behind what happens in it. An access is one of a listed field unit, within its
-- operation region, which stood in an earlier world (`located`). In PCI_Config the access is at the function whose address the region's scope
-- has in that world; the objects of that address are evaluated after it. In the wide profile, a byte of the header of a PCI-to-PCI bridge may
-- be read that lies in no region.
pub data History {S : Type 0} (accesses : Accesses S) : List FieldUnit → State S → State S → Type 0 where
  same : (known : List FieldUnit) (w : State S) → History accesses known w w
  changed : (known : List FieldUnit) (w u v : State S) → History accesses known w u → NothingNew u v → History accesses known w v
  declared : (known : List FieldUnit) (w u : State S) (path : List Seg) (o : NamedObject) → History accesses known w u → contains_key u.names.map path ≡ false
      → History accesses known w (record u { names = with_declaration path o u.names })
  call_ended : (known : List FieldUnit) (w u v : State S) (path : List Seg) (names : Namespace) → History accesses known w u → MethodStands u.names.map path → History accesses known u v → GoneBelow path v.names names
      → History accesses known w (record v { names = names })
  framed : (known : List FieldUnit) (w u v : State S) (arguments : List Value) → History accesses known w u → History accesses known (with_frame arguments u) v → History accesses known w (without_frame v)
  field_stands : (known : List FieldUnit) (w u v : State S) (field : FieldUnit) → History accesses known w u → FieldUnitStands u.names.map field → History accesses (field ∷ known) u v
      → History accesses known w v
  read : (known : List FieldUnit) (w located u : State S) (field : FieldUnit) (region : OperationRegion) (at : Place) (width : Width) → Contains known field → History accesses known w located
      → (stands : RegionStands located.names.map region) → History accesses known located u → IsOfField located.names.map field region stands at width
      → IsAtFunction accesses located (scope_of stands.path) at
      → History accesses known w (record u { space = (accesses.reads u.space at width).1 })
  written : (known : List FieldUnit) (w located u : State S) (field : FieldUnit) (region : OperationRegion) (at : Place) (width : Width) (value : ℕ) → Contains known field → History accesses known w located
      → (stands : RegionStands located.names.map region) → History accesses known located u → IsOfField located.names.map field region stands at width
      → IsAtFunction accesses located (scope_of stands.path) at
      → History accesses known w (record u { space = (accesses.writes u.space at width value).1 })
  bridge_asked : (known : List FieldUnit) (w u : State S) (at : Place) (width : Width) → History accesses known w u → u.profile ≡ profiles.Wide → AsksBridge at width
      → History accesses known w (record u { space = (accesses.reads u.space at width).1 })

-- ---- what notes tell of it

abbrev pub place_of : Exchange → Place
place_of (Read at width answer) = at
place_of (Write at width value answer) = at

abbrev pub width_of : Exchange → Width
width_of (Read at width answer) = width
width_of (Write at width value answer) = width

-- A world with the settings of another one and with these names: all that stand in it stand alike among these, and of these all that have
-- been declared by then stand alike in it. This leaves open only which of the names below a control method are removed by then.
pub record IsWorldOf {S : Type 0} (w : State S) (names : Map) (v : State S) : Type 0 where
  pub settings : SameSettings w v
  pub stand : (path : List Seg) (entry : Entry) → get v.names.map path ≡ Some entry → StandsAlike names path entry
  pub stay : (path : List Seg) (entry : Entry) → get names path ≡ Some entry → OutsideIn names path → entry.number < v.names.next → StandsAlike v.names.map path entry

-- An access of a unit of a field unit that stands, within the operation region that it lies in, which stands too. In PCI_Config it is at the
-- function whose address the region's scope has in a world of these names.
pub record IsDeclared {S : Type 0} (accesses : Accesses S) (w : State S) (names : Map) (access : Exchange) : Type 0 where
  pub field : FieldUnit
  pub field_stands : FieldUnitStands names field
  pub region : OperationRegion
  pub stands : RegionStands names region
  pub is_of : IsOfField names field region stands (place_of access) (width_of access)
  pub located : State S
  pub is_world : IsWorldOf w names located
  pub function : IsAtFunction accesses located (scope_of stands.path) (place_of access)

-- a read that asks a bridge
pub data IsBridgeRead : Exchange → Type 0 where
  asks : (at : Place) (width : Width) (answer : Result ℕ SpaceFault) → AsksBridge at width → IsBridgeRead (Read at width answer)

-- what an access is: in the core profile one of a field unit that stands, within its region; in the wide one it may ask a bridge instead
abbrev pub IsExplained : {S : Type 0} → Accesses S → State S → Map → Exchange → Type 0
IsExplained accesses w names access = IsDeclared accesses w names access ⊎ ((w.profile ≡ profiles.Wide) × IsBridgeRead access)

-- the notes after are those before, and then such accesses
pub record NotesExplained {S : Type 0} (accesses : Accesses (WithNotes S)) (w : State (WithNotes S)) (names : Map) (before after : WithNotes S) : Type 0 where
  pub made : List Exchange
  pub are : after.1 ≡ before.1 ++ made
  pub explained : All (IsExplained accesses w names) made

-- a name stands under a number
pub record NumberStands (names : Map) (number : ℕ) : Type 0 where
  pub path : List Seg
  pub entry : Entry
  pub there : get names path ≡ Some entry
  pub numbered : entry.number ≡ number

-- no name is removed: each number under which a name stood has one after, and each that was given since
pub record NoneRemoved (before after : Namespace) : Type 0 where
  pub stood : (path : List Seg) (entry : Entry) → get before.map path ≡ Some entry → NumberStands after.map entry.number
  pub declared : (number : ℕ) → before.next ≤ number → number < after.next → NumberStands after.map number
