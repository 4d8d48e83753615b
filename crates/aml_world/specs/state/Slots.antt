-- Frames, and the slots in them (ACPI 6.5, 5.5.2.3 and 19.6: ArgX, LocalX).
use Rattle.std.specs.Prelude.{ℕ, ◌+◌, ◌-◌, ◌^◌, ◌==◌, List, [], ◌∷◌, ◌++◌, length, take, replicate, Option, Some, None, Ok, Err, slice_get, slice_set, slice_index_or, position, if◌then◌else◌}
use Rattle.ar_space.specs.declared.refusal.Refusal.TheVariants as refusal
use Rattle.ar_space.specs.declared.refusal.EvaluationFault.TheVariants.{DeadReference, ObjectLimit}
use Rattle.ar_space.specs.Outcome.{Outcome}
use Rattle.ar_space.specs.Change.{Change}
use Rattle.aml_objects.specs.declared.value.Value.{Value}
use Rattle.aml_objects.specs.declared.value.Value.TheVariants as value
use Rattle.aml_objects.specs.declared.value.Slot.{Slot}
use Rattle.aml_objects.specs.declared.value.Slot.TheVariants.{Local, Argument}
use Rattle.aml_world.specs.declared.state.frame.Frame.{Frame}
use Rattle.aml_world.specs.state.State.{State}

-- a slot's value; there are eight locals and seven arguments
abbrev pub slot_in : Frame → Slot → Value
slot_in f (Local i) = slice_index_or f.locals i value.Uninitialized
slot_in f (Argument i) = slice_index_or f.arguments i value.Uninitialized

-- a frame with a slot's value replaced
abbrev pub with_slot : Frame → Slot → Value → Frame
with_slot f (Local i) v = record f { locals = slice_set f.locals i v }
with_slot f (Argument i) v = record f { arguments = slice_set f.arguments i v }

-- the frame with a number, while it stands: its index among the frames
abbrev pub frame_index : ℕ → List Frame → Option ℕ
frame_index n frames = position (λ f. f.number == n) frames

abbrev pub slot_found : Slot → Option Frame → Outcome Value
slot_found slot None = Err (refusal.Evaluation DeadReference)
slot_found slot (Some f) = Ok (slot_in f slot)

abbrev pub slot_at : Slot → List Frame → Option ℕ → Outcome Value
slot_at slot frames None = Err (refusal.Evaluation DeadReference)
slot_at slot frames (Some k) = slot_found slot (slice_get frames k)

-- what a slot of the frame with a number holds; a frame that ended is a dead reference
unfoldable pub slot_of : {S : Type 0} → ℕ → Slot → Change (State S) Value
slot_of n slot w = (slot_at slot w.frames (frame_index n w.frames), w)

-- a new frame, whose locals are uninitialized
unfoldable pub opened : {S : Type 0} → List Value → Change (State S) ℕ
opened arguments w =
    if w.started == 2 ^ 64 - 1
    then (Err (refusal.Evaluation ObjectLimit), w)
    else (Ok w.started, record w { frames = w.frames ++ record { number = w.started; locals = replicate 8 value.Uninitialized; arguments = arguments } ∷ []; started = w.started + 1 })

-- the latest frame ends
abbrev pub closed : {S : Type 0} → State S → State S
closed w = record w { frames = take (length w.frames - 1) w.frames }
