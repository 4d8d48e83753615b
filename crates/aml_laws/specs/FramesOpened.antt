-- The frame in which the body of a control method begins (ACPI 6.5, 5.5.2.3 and 19.6: ArgX, LocalX).
use Rattle.std.specs.Prelude.{◌≡◌, ◌<◌, ◌+◌, ◌++◌, ℕ, List, [], ◌∷◌, Some, None, slice_get}
use Rattle.aml_objects.specs.declared.value.Slot.TheVariants.{Local, Argument}
use Rattle.aml_objects.specs.declared.value.Value.{Value}
use Rattle.aml_objects.specs.declared.value.Value.TheVariants as value
use Rattle.aml_world.specs.declared.state.frame.Frame.{Frame}
use Rattle.aml_world.specs.state.Slots.{slot_in}
use Rattle.aml_world.specs.state.State.{State}

-- The world with one frame more, which has the next number. Its arguments are those that were handed in, in their order. Those of the seven
-- that were not, and its eight locals, hold nothing.
pub record IsFrameOpened {S : Type 0} (before : State S) (arguments : List Value) (number : ℕ) (after : State S) : Type 0 where
  pub frame : Frame
  pub is : after ≡ record before { frames = before.frames ++ frame ∷ []; started = before.started + 1 }
  pub next : number ≡ before.started
  pub numbered : frame.number ≡ number
  pub argument : (i : ℕ) (v : Value) → i < 7 → slice_get arguments i ≡ Some v → slot_in frame (Argument i) ≡ v
  pub none : (i : ℕ) → i < 7 → slice_get arguments i ≡ None → slot_in frame (Argument i) ≡ value.Uninitialized
  pub local : (i : ℕ) → i < 8 → slot_in frame (Local i) ≡ value.Uninitialized
