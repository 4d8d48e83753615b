-- Increment and Decrement of a target where no value stands are refused.
use Rattle.std.specs.Prelude.{◌≡◌, ℕ, suc, List, length, slice_get, Some, Ok, Err, refl}
use Rattle.std.proofs.Common.{◌∙◌}
use Rattle.std.specs.FinMap.{get}
use Rattle.ar_space.specs.Accesses.{Accesses}
use Rattle.ar_space.specs.Change.{give, stop, settle, go_on, ◌>>=◌}
use Rattle.ar_space.specs.declared.refusal.Refusal.{Refusal}
use Rattle.ar_space.specs.declared.refusal.Refusal.TheVariants as refusal
use Rattle.ar_space.specs.declared.refusal.EvaluationFault.TheVariants.{DeadReference, NoValue}
use Rattle.ar_space.specs.declared.refusal.ValueFault.TheVariants.{WrongType}
use Rattle.aml_path.specs.declared.segment.Seg.{Seg}
use Rattle.aml_namespace.specs.Namespace.{numbered}
use Rattle.aml_grammar.specs.declared.opcode.Opcode.{Opcode}
use Rattle.aml_grammar.specs.declared.opcode.Opcode.TheVariants as opcodes
use Rattle.aml_grammar.specs.Tree.{Part}
use Rattle.aml_objects.specs.Objects.{element_at}
use Rattle.aml_objects.specs.declared.entry.Entry.{Entry}
use Rattle.aml_objects.specs.declared.entry.NamedObject.{NamedObject}
use Rattle.aml_objects.specs.declared.object.Element.{Element}
use Rattle.aml_objects.specs.declared.object.Element.TheVariants as element
use Rattle.aml_objects.specs.declared.object.Object.TheVariants as object
use Rattle.aml_objects.specs.declared.value.Reference.{Reference}
use Rattle.aml_objects.specs.declared.value.Reference.TheVariants as reference
use Rattle.aml_objects.specs.declared.value.Slot.{Slot}
use Rattle.aml_objects.specs.declared.value.Value.TheVariants as value
use Rattle.aml_world.specs.declared.state.frame.Frame.{Frame}
use Rattle.aml_world.specs.declared.values.store_target.Held.TheVariants as held
use Rattle.aml_world.specs.declared.values.store_target.Holding.TheVariants as holding
use Rattle.aml_world.specs.declared.values.store_target.StoreTarget.{StoreTarget}
use Rattle.aml_world.specs.declared.values.store_target.StoreTarget.TheVariants as targets
use Rattle.aml_world.specs.declared.values.operation_kind.Count.{Count}
use Rattle.aml_world.specs.declared.values.operation_kind.Count.TheVariants as count
use Rattle.aml_world.specs.state.State.{State, on_objects}
use Rattle.aml_world.specs.state.Run.{lift}
use Rattle.aml_world.specs.state.Slots.{frame_index, slot_in}
use Rattle.aml_world.specs.state.Readings.{integer_in}
use Rattle.aml_world.specs.values.StoreTargets.{holding_of, held_at, latest_frame, frame_found, slot_held, own_slot, slot_read, declaration, once, declared_once, value_once, slot_once, held_once, dereferenced, name_read, held_in_slot, target_read}
use Rattle.aml_meaning.specs.declared.term_kind.OperatorKind.TheVariants as operators
use Rattle.aml_meaning.specs.declared.term_kind.TermKind.TheVariants as kinds
use Rattle.aml_meaning.specs.Terms.{kind_of}
use Rattle.aml_meaning.specs.OperatorTerms.{count_rule}
use Rattle.aml_meaning.specs.Meaning.{meaning}
use Rattle.aml_laws.specs.OperatorTerms.{counting, SlotIsEmpty, IsRefused}
use Rattle.aml_laws.specs.PutIntoTargets.{IsCount, upwards, downwards, referred}
use Rattle.aml_laws.specs.StoredParts.{HoldsNothing, scope, device, processor, power_resource, thermal_zone, method, region, mutex, event}
use Rattle.aml_laws.specs.TargetsNamed.{NamesAt}
use Rattle.aml_laws.specs.UncountedTargets.{HoldsNoValue, debug_holds_none, empty_slot, no_slot, no_data, no_data_behind, empty_slot_behind, empty_element}
use Rattle.aml_laws.proofs.CountsPut.{begins, value_stops}
use Rattle.aml_laws.proofs.PutIntoTargets.{target_so}

-- ---- what holds no value

holds_none : (o : NamedObject) → HoldsNothing o → holding_of o ≡ holding.Nothing
holds_none _ scope = refl
holds_none _ device = refl
holds_none _ processor = refl
holds_none _ power_resource = refl
holds_none _ thermal_zone = refl
holds_none _ (method m) = refl
holds_none _ (region r) = refl
holds_none _ (mutex c) = refl
holds_none _ (event c) = refl

itself_again : (n : ℕ) (o : NamedObject) → HoldsNothing o → once n o ≡ held.Value (value.Reference (reference.Name n))
itself_again n _ scope = refl
itself_again n _ device = refl
itself_again n _ processor = refl
itself_again n _ power_resource = refl
itself_again n _ thermal_zone = refl
itself_again n _ (method m) = refl
itself_again n _ (region r) = refl
itself_again n _ (mutex c) = refl
itself_again n _ (event c) = refl

module _ {S : Type 0} (w : State S) where
  name_not_read : (path : List Seg) (e : Entry) → get w.names.map path ≡ Some e → HoldsNothing e.object → target_read (targets.Name path) w ≡ (Err (refusal.Value WrongType), w)
  unfolding name_read held_at settle go_on ◌>>=◌
  name_not_read path e at none = rw (at, holds_none e.object none) refl

  slot_not_read : (s : Slot) → SlotIsEmpty w s → target_read (targets.Slot s) w ≡ (Err (refusal.Evaluation NoValue), w)
  unfolding held_in_slot slot_read own_slot latest_frame slot_held settle go_on ◌>>=◌
  slot_not_read s h = rw (h.latest, h.stands, h.empty) refl

  no_slot_read : (s : Slot) → length w.frames ≡ 0 → target_read (targets.Slot s) w ≡ (Err (refusal.Evaluation DeadReference), w)
  unfolding held_in_slot slot_read own_slot latest_frame go_on ◌>>=◌
  no_slot_read s none = rw none refl

  declaration_again : (n : ℕ) (path : List Seg) (e : Entry) → numbered n w.names.map ≡ Some (path, e) → HoldsNothing e.object → dereferenced (reference.Name n) w ≡ (Ok (held.Value (value.Reference (reference.Name n))), w)
  unfolding declared_once declaration give go_on ◌>>=◌
  declaration_again n path e at none = rw (at, itself_again n e.object none) refl

  slot_behind_not_read : (s : Slot) (n k : ℕ) (f : Frame) → frame_index n w.frames ≡ Some k → slice_get w.frames k ≡ Some f → slot_in f s ≡ value.Uninitialized → target_read (targets.Refers (reference.Slot s n)) w ≡ (Err (refusal.Evaluation NoValue), w)
  unfolding slot_once frame_found slot_held value_once settle go_on ◌>>=◌
  slot_behind_not_read s n k f at stands empty = rw (at, stands, empty) refl

  element_not_read : (o i : ℕ) (es : List Element) → slice_get w.objects o ≡ Some (object.Package es) → slice_get es i ≡ Some (element.Value value.Uninitialized) → target_read (targets.Refers (reference.Element o i)) w ≡ (Err (refusal.Evaluation NoValue), w)
  unfolding held_once on_objects element_at value_once settle go_on ◌>>=◌
  element_not_read o i es stands is = rw (stands, is) refl

  reference_not_converted : (r : Reference) → integer_in (value.Reference r) w ≡ (Err (refusal.Value WrongType), w)
  unfolding integer_in
  reference_not_converted r = refl

-- ---- the terms

module _ {S : Type 0} (accesses : Accesses S) (scope : List Seg) (depth : ℕ) (p : Part) (w : State S) (steps : ℕ) (k : Count) (op : Opcode) (is : kind_of op ≡ kinds.Operator (operators.Count k)) (t : StoreTarget) (between : State S × ℕ) (finds : NamesAt accesses scope depth (w, steps) p t between) where
  target_stops : (e : Refusal) → target_read t between.0 ≡ (Err e, between.0) → count_rule accesses (meaning accesses) k scope depth (counting op p) (w, steps) ≡ (Err e, between)
  unfolding count_rule lift go_on ◌>>=◌
  target_stops e stops = rw (target_so accesses scope depth (counting op p) 0 p refl (w, steps) t between finds, stops) refl

  unread : (e : Refusal) → target_read t between.0 ≡ (Err e, between.0) → IsRefused accesses scope depth (counting op p) (w, suc steps) e between
  unread e stops = begins accesses scope depth p w steps k op is ∙ target_stops e stops

module _ {S : Type 0} (accesses : Accesses S) (scope : List Seg) (depth : ℕ) (p : Part) (w : State S) (steps : ℕ) (k : Count) (op : Opcode) (is : kind_of op ≡ kinds.Operator (operators.Count k)) (between : State S × ℕ) where
  counts_none : (t : StoreTarget) → NamesAt accesses scope depth (w, steps) p t between → (e : Refusal) → HoldsNoValue between.0 t e → IsRefused accesses scope depth (counting op p) (w, suc steps) e between
  unfolding stop
  counts_none _ finds _ debug_holds_none = unread accesses scope depth p w steps k op is targets.Nowhere between finds (refusal.Value WrongType) refl
  counts_none _ finds _ (empty_slot s h) = unread accesses scope depth p w steps k op is (targets.Slot s) between finds (refusal.Evaluation NoValue) (slot_not_read between.0 s h)
  counts_none _ finds _ (no_slot s none) = unread accesses scope depth p w steps k op is (targets.Slot s) between finds (refusal.Evaluation DeadReference) (no_slot_read between.0 s none)
  counts_none _ finds _ (no_data path e at none) = unread accesses scope depth p w steps k op is (targets.Name path) between finds (refusal.Value WrongType) (name_not_read between.0 path e at none)
  counts_none _ finds _ (no_data_behind n path e at none) =
      value_stops accesses scope depth p w steps k op is (targets.Refers (reference.Name n)) between finds (value.Reference (reference.Name n)) (referred (reference.Name n) (value.Reference (reference.Name n)) (declaration_again between.0 n path e at none)) (refusal.Value WrongType)
      (reference_not_converted between.0 (reference.Name n))
  counts_none _ finds _ (empty_slot_behind s n j f at stands empty) = unread accesses scope depth p w steps k op is (targets.Refers (reference.Slot s n)) between finds (refusal.Evaluation NoValue) (slot_behind_not_read between.0 s n j f at stands empty)
  counts_none _ finds _ (empty_element o i es stands at) = unread accesses scope depth p w steps k op is (targets.Refers (reference.Element o i)) between finds (refusal.Evaluation NoValue) (element_not_read between.0 o i es stands at)

pub counts_no_value : {S : Type 0} (accesses : Accesses S) (home : List Seg) (depth : ℕ) (op : Opcode) → IsCount op → (p : Part) (w : State S) (steps : ℕ) (t : StoreTarget) (between : State S × ℕ) → NamesAt accesses home depth (w, steps) p t between → (e : Refusal) → HoldsNoValue between.0 t e
    → IsRefused accesses home depth (counting op p) (w, suc steps) e between
counts_no_value accesses home depth _ upwards p w steps t between finds e none = counts_none accesses home depth p w steps count.Increment opcodes.Increment refl between t finds e none
counts_no_value accesses home depth _ downwards p w steps t between finds e none = counts_none accesses home depth p w steps count.Decrement opcodes.Decrement refl between t finds e none
