-- Targets where no value stands that Increment and Decrement could count (ACPI 6.5, 19.6: Decrement, Increment).
use Rattle.std.specs.Prelude.{◌≡◌, ℕ, List, length, slice_get, Some}
use Rattle.std.specs.FinMap.{get}
use Rattle.ar_space.specs.declared.refusal.Refusal.{Refusal}
use Rattle.ar_space.specs.declared.refusal.Refusal.TheVariants as refusal
use Rattle.ar_space.specs.declared.refusal.EvaluationFault.TheVariants.{DeadReference, NoValue}
use Rattle.ar_space.specs.declared.refusal.ValueFault.TheVariants.{WrongType}
use Rattle.aml_path.specs.declared.segment.Seg.{Seg}
use Rattle.aml_namespace.specs.Namespace.{numbered}
use Rattle.aml_objects.specs.declared.entry.Entry.{Entry}
use Rattle.aml_objects.specs.declared.object.Element.{Element}
use Rattle.aml_objects.specs.declared.object.Element.TheVariants as element
use Rattle.aml_objects.specs.declared.object.Object.TheVariants as object
use Rattle.aml_objects.specs.declared.value.Reference.TheVariants as reference
use Rattle.aml_objects.specs.declared.value.Slot.{Slot}
use Rattle.aml_objects.specs.declared.value.Value.TheVariants as value
use Rattle.aml_world.specs.declared.state.frame.Frame.{Frame}
use Rattle.aml_world.specs.declared.values.store_target.StoreTarget.{StoreTarget}
use Rattle.aml_world.specs.declared.values.store_target.StoreTarget.TheVariants as targets
use Rattle.aml_world.specs.state.Slots.{frame_index, slot_in}
use Rattle.aml_world.specs.state.State.{State}
use Rattle.aml_laws.specs.OperatorTerms.{SlotIsEmpty}
use Rattle.aml_laws.specs.StoredParts.{HoldsNothing}

-- No value stands in a target, and what refuses it: Debug, and a name that holds none, by itself or behind a reference;
-- a slot of the control method that runs that holds nothing yet, one where none runs, and a slot and an element of a
-- package behind a reference that hold nothing yet.
pub data HoldsNoValue {S : Type 0} (w : State S) : StoreTarget → Refusal → Type 0 where
  debug_holds_none : HoldsNoValue w targets.Nowhere (refusal.Value WrongType)
  empty_slot : (s : Slot) → SlotIsEmpty w s → HoldsNoValue w (targets.Slot s) (refusal.Evaluation NoValue)
  no_slot : (s : Slot) → length w.frames ≡ 0 → HoldsNoValue w (targets.Slot s) (refusal.Evaluation DeadReference)
  no_data : (path : List Seg) (e : Entry) → get w.names.map path ≡ Some e → HoldsNothing e.object → HoldsNoValue w (targets.Name path) (refusal.Value WrongType)
  no_data_behind : (n : ℕ) (path : List Seg) (e : Entry) → numbered n w.names.map ≡ Some (path, e) → HoldsNothing e.object → HoldsNoValue w (targets.Refers (reference.Name n)) (refusal.Value WrongType)
  empty_slot_behind : (s : Slot) (n k : ℕ) (f : Frame) → frame_index n w.frames ≡ Some k → slice_get w.frames k ≡ Some f → slot_in f s ≡ value.Uninitialized → HoldsNoValue w (targets.Refers (reference.Slot s n)) (refusal.Evaluation NoValue)
  empty_element : (o i : ℕ) (es : List Element) → slice_get w.objects o ≡ Some (object.Package es) → slice_get es i ≡ Some (element.Value value.Uninitialized) → HoldsNoValue w (targets.Refers (reference.Element o i)) (refusal.Evaluation NoValue)
