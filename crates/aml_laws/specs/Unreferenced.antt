-- Slots of a frame to which nothing refers that evaluation can reach, and a slot that takes a value.
use Rattle.std.specs.Prelude.{◌≡◌, ◌<◌, ◌⊎◌, ℕ, List, [], ◌∷◌, length, Option, Some, None, Ok, Err, slice_get}
use Rattle.std.specs.FinMap.{get}
use Rattle.ar_space.specs.Outcome.{Outcome}
use Rattle.aml_path.specs.declared.segment.Seg.{Seg}
use Rattle.aml_objects.specs.declared.value.Reference.TheVariants as reference
use Rattle.aml_objects.specs.declared.value.Slot.{Slot}
use Rattle.aml_objects.specs.declared.value.Slot.TheVariants.{Local, Argument}
use Rattle.aml_objects.specs.declared.value.Value.{Value}
use Rattle.aml_objects.specs.declared.value.Value.TheVariants as value
use Rattle.aml_objects.specs.declared.object.Element.{Element}
use Rattle.aml_objects.specs.declared.object.Element.TheVariants as elements
use Rattle.aml_objects.specs.declared.object.Object.TheVariants as object
use Rattle.aml_objects.specs.declared.entry.BufferField.{BufferField}
use Rattle.aml_objects.specs.declared.entry.NamedObject.TheVariants as named
use Rattle.aml_world.specs.declared.state.frame.Frame.{Frame}
use Rattle.aml_world.specs.state.State.{State}
use Rattle.aml_world.specs.state.Slots.{slot_in, slot_of}
use Rattle.aml_meaning.specs.declared.flow.Flow.{Flow}
use Rattle.aml_meaning.specs.declared.flow.Flow.TheVariants as flow
use Rattle.aml_laws.specs.Histories.{numbered_entry}

-- a frame with this number stands, and there is another above it
abbrev pub FrameStands : ℕ → List ℕ → Type 0
FrameStands n [] = ⊥
FrameStands n (m ∷ ms) = (m ≡ n) ⊎ FrameStands n ms

abbrev pub FrameStandsBelow : ℕ → List ℕ → Type 0
FrameStandsBelow n [] = ⊥
FrameStandsBelow n (m ∷ []) = ⊥
FrameStandsBelow n (m ∷ k ∷ ks) = (m ≡ n) ⊎ FrameStandsBelow n (k ∷ ks)

-- the string, buffer or package that a value is, or to a byte or an element of which it refers
abbrev pub object_of : Value → Option ℕ
object_of (value.String o) = Some o
object_of (value.Buffer o) = Some o
object_of (value.Package o) = Some o
object_of (value.Reference (reference.Element o i)) = Some o
object_of (value.Reference (reference.Byte o i)) = Some o
object_of _ = None

-- values that evaluation can reach without the frame with the number n: those that are handed in, what names hold, the buffers of fields,
-- what the slots of all other frames hold, and the elements of packages that are reached; and what a slot of that frame holds only where a
-- reference to that very slot is reached
pub data Reaches {S : Type 0} (n : ℕ) (w : State S) (handed : List Value) : Value → Type 0 where
  handed_in : (i : ℕ) (v : Value) → slice_get handed i ≡ Some v → Reaches n w handed v
  name : (path : List Seg) (number : ℕ) (v : Value) → get w.names.map path ≡ Some (numbered_entry number (named.Data v)) → Reaches n w handed v
  field : (path : List Seg) (number : ℕ) (b : BufferField) → get w.names.map path ≡ Some (numbered_entry number (named.BufferField b)) → Reaches n w handed (value.Buffer b.buffer)
  other_frame : (k : ℕ) (f : Frame) (slot : Slot) → slice_get w.frames k ≡ Some f → (f.number ≡ n → ⊥) → Reaches n w handed (slot_in f slot)
  referred : (k : ℕ) (f : Frame) (slot : Slot) → slice_get w.frames k ≡ Some f → f.number ≡ n → Reaches n w handed (value.Reference (reference.Slot slot n)) → Reaches n w handed (slot_in f slot)
  element : (o i : ℕ) (es : List Element) (u v : Value) → Reaches n w handed u → object_of u ≡ Some o → slice_get w.objects o ≡ Some (object.Package es) → slice_get es i ≡ Some (elements.Value v) → Reaches n w handed v

pub record ReachesObject {S : Type 0} (n : ℕ) (w : State S) (handed : List Value) (o : ℕ) : Type 0 where
  pub value : Value
  pub reached : Reaches n w handed value
  pub is : object_of value ≡ Some o

-- no reference to this slot of the frame is reached
abbrev pub Unreferenced : {S : Type 0} → ℕ → State S → List Value → Slot → Type 0
Unreferenced n w handed slot = Reaches n w handed (value.Reference (reference.Slot slot n)) → ⊥

-- what an evaluation gives
abbrev pub values_given : Outcome Flow → List Value
values_given (Ok (flow.Value v)) = v ∷ []
values_given (Ok (flow.Return v)) = v ∷ []
values_given (Ok _) = []
values_given (Err e) = []

-- each slot of the frame to which no reference is reached holds what it held, and still none is reached, nor is it what the evaluation
-- gives; and each object that can't be reached is as it was
pub record LeavesAlone {S : Type 0} (n : ℕ) (before : State S) (handed : List Value) (end : Outcome Flow × (State S × ℕ)) : Type 0 where
  pub slots : (slot : Slot) → Unreferenced n before handed slot → (slot_of n slot end.1.0).0 ≡ (slot_of n slot before).0
  pub objects : (o : ℕ) → o < length before.objects → (ReachesObject n before handed o → ⊥) → slice_get end.1.0.objects o ≡ slice_get before.objects o
  pub unreferenced : (slot : Slot) → Unreferenced n before handed slot → Unreferenced n end.1.0 (values_given end.0) slot

-- a frame has eight locals, and the arguments that were handed in
abbrev pub HasSlot : Frame → Slot → Type 0
HasSlot f (Local i) = i < length f.locals
HasSlot f (Argument i) = i < length f.arguments
