-- What DerefOf reads, dead references, and references that follow one another (ACPI 6.5, 19.6: DerefOf, Index, RefOf).
use Rattle.std.specs.Prelude.{◌≡◌, ◌≢◌, ◌⊎◌, ◌≤◌, ◌<◌, ℕ, zero, suc, List, length, slice_get, Some, None, Ok, Err}
use Rattle.ar_space.specs.declared.refusal.Refusal.{Refusal}
use Rattle.aml_path.specs.declared.segment.Seg.{Seg}
use Rattle.aml_path.specs.Paths.{Name}
use Rattle.aml_objects.specs.declared.entry.Entry.{Entry}
use Rattle.aml_objects.specs.declared.entry.NamedObject.{NamedObject}
use Rattle.aml_objects.specs.declared.entry.NamedObject.TheVariants as named
use Rattle.aml_objects.specs.declared.object.Element.{Element}
use Rattle.aml_objects.specs.declared.object.Element.TheVariants as element
use Rattle.aml_objects.specs.declared.object.Object.TheVariants as object
use Rattle.aml_objects.specs.declared.value.Reference.{Reference}
use Rattle.aml_objects.specs.declared.value.Reference.TheVariants as reference
use Rattle.aml_objects.specs.declared.value.Slot.{Slot}
use Rattle.aml_objects.specs.declared.value.Value.{Value}
use Rattle.aml_objects.specs.declared.value.Value.TheVariants as value
use Rattle.aml_namespace.specs.Namespace.{numbered}
use Rattle.aml_namespace.specs.Search.{found}
use Rattle.aml_world.specs.declared.state.frame.Frame.{Frame}
use Rattle.aml_world.specs.state.State.{State}
use Rattle.aml_world.specs.state.Slots.{frame_index, slot_in}
use Rattle.aml_laws.specs.NamesInPackages.{HoldsName}
use Rattle.aml_laws.specs.StoredParts.{HoldsNothing}

-- what a reference refers to holds a value: the declaration with a number, a slot of the frame with a number, an element of a package; or it
-- is a byte of a string or of a buffer, which is an integer
pub data Holds {S : Type 0} (w : State S) : Reference → Value → Type 0 where
  by_name : (n : ℕ) (path : List Seg) (e : Entry) (v : Value) → numbered n w.names.map ≡ Some (path, e) → e.object ≡ named.Data v → Holds w (reference.Name n) v
  by_slot : (slot : Slot) (n k : ℕ) (f : Frame) (v : Value) → frame_index n w.frames ≡ Some k → slice_get w.frames k ≡ Some f → slot_in f slot ≡ v → Holds w (reference.Slot slot n) v
  by_element : (o i : ℕ) (es : List Element) (v : Value) → slice_get w.objects o ≡ Some (object.Package es) → slice_get es i ≡ Some (element.Value v) → Holds w (reference.Element o i) v
  by_byte_of_string : (o i b : ℕ) (bytes : List ℕ) → slice_get w.objects o ≡ Some (object.String bytes) → slice_get bytes i ≡ Some b → Holds w (reference.Byte o i) (value.Integer b)
  by_byte_of_buffer : (o i b : ℕ) (bytes : List ℕ) → slice_get w.objects o ≡ Some (object.Buffer bytes) → slice_get bytes i ≡ Some b → Holds w (reference.Byte o i) (value.Integer b)

-- a slot and an element that hold no value yet
pub data IsEmpty {S : Type 0} (w : State S) : Reference → Type 0 where
  empty_slot : (slot : Slot) (n k : ℕ) (f : Frame) → frame_index n w.frames ≡ Some k → slice_get w.frames k ≡ Some f → slot_in f slot ≡ value.Uninitialized → IsEmpty w (reference.Slot slot n)
  empty_element : (o i : ℕ) (es : List Element) → slice_get w.objects o ≡ Some (object.Package es) → slice_get es i ≡ Some (element.Value value.Uninitialized) → IsEmpty w (reference.Element o i)

-- what a reference referred to is gone: no declaration and no frame has the number, and no package has an element, no string and no buffer a
-- byte, so far behind its first one
pub data IsDead {S : Type 0} (w : State S) : Reference → Type 0 where
  name_gone : (n : ℕ) → numbered n w.names.map ≡ None → IsDead w (reference.Name n)
  call_ended : (slot : Slot) (n : ℕ) → frame_index n w.frames ≡ None → IsDead w (reference.Slot slot n)
  no_element : (o i : ℕ) → ((es : List Element) → slice_get w.objects o ≡ Some (object.Package es) → length es ≤ i) → IsDead w (reference.Element o i)
  no_byte : (o i : ℕ) → ((bytes : List ℕ) → (slice_get w.objects o ≡ Some (object.String bytes)) ⊎ (slice_get w.objects o ≡ Some (object.Buffer bytes)) → length bytes ≤ i) → IsDead w (reference.Byte o i)

-- what a name in a package finds that it gives a reference to: it holds another reference, or neither a value nor the bits of a field
pub data IsReferredTo : NamedObject → Type 0 where
  holds_reference : (r : Reference) → IsReferredTo (named.Data (value.Reference r))
  holds_nothing : (o : NamedObject) → HoldsNothing o → IsReferredTo o

-- what a reference refers to is the next one, or the name in a package that leads to it
pub data IsNext {S : Type 0} (w : State S) : Reference → Reference → Type 0 where
  by_value : (r q : Reference) → Holds w r (value.Reference q) → IsNext w r q
  by_found_name : (o i : ℕ) (n : Name) (home path : List Seg) (e : Entry) → HoldsName w o i n home → found w.names.map home n ≡ Ok (path, e) → IsReferredTo e.object → IsNext w (reference.Element o i) (reference.Name e.number)

-- so many references, each of which refers to the next one, lead from one to another
pub data Leads {S : Type 0} (w : State S) : ℕ → Reference → Reference → Type 0 where
  nowhere : (r : Reference) → Leads w zero r r
  further : (n : ℕ) (r q end : Reference) → IsNext w r q → Leads w n q end → Leads w (suc n) r end

-- references that come to no end: 64 or more lead on, a dead one is the last, or one of them leads back to itself
pub data HasNoEnd {S : Type 0} (w : State S) : Reference → Type 0 where
  too_many : (n : ℕ) (r q : Reference) → Leads w n r q → 64 ≤ n → HasNoEnd w r
  dead_end : (n : ℕ) (r q : Reference) → Leads w n r q → IsDead w q → HasNoEnd w r
  a_circle : (n m : ℕ) (r q : Reference) → Leads w n r q → Leads w m q q → m ≢ zero → HasNoEnd w r

-- fewer than 64 references lead to an element of a package that is a name, whose search is refused
pub record EndsUnfound {S : Type 0} (w : State S) (r : Reference) (e : Refusal) : Type 0 where
  pub count : ℕ
  pub o : ℕ
  pub i : ℕ
  pub leads : Leads w count r (reference.Element o i)
  pub few : count < 64
  pub name : Name
  pub home : List Seg
  pub holds : HoldsName w o i name home
  pub unfound : found w.names.map home name ≡ Err e
