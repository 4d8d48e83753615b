-- What stores leave in slots, in elements of packages, in bytes, and in names.
use Rattle.std.specs.Prelude.{◌≡◌, ◌≢◌, ◌<◌, ◌≤◌, ◌+◌, ◌++◌, ℕ, suc, nat_lt, true, List, [], length, get_or, slice_get, slice_set, Some, Ok, Err, refl}
use Rattle.std.proofs.Common.{arith, ap, ◌∙◌}
use Rattle.std.proofs.lemmas.Bool.Decides.{nat_tests}
use Rattle.std.proofs.lemmas.Option.{slice_get-get_or}
use Rattle.std.specs.FinMap.{get, insert}
use Rattle.ar_space.specs.Outcome.{Outcome}
use Rattle.ar_space.specs.Change.{Change, give, stop, go_on, ◌>>=◌}
use Rattle.ar_space.specs.declared.refusal.Refusal.{Refusal}
use Rattle.ar_space.specs.declared.refusal.Refusal.TheVariants as refusal
use Rattle.ar_space.specs.declared.refusal.ValueFault.TheVariants.{WrongType, EmptyValue}
use Rattle.aml_path.specs.declared.segment.Seg.{Seg}
use Rattle.aml_objects.specs.Copies.{value_copy, package_copy, if_whole, whole, copied}
use Rattle.aml_objects.specs.Objects.{Objects, element_there, write_element, byte_at, write_byte}
use Rattle.aml_objects.specs.declared.entry.Entry.{Entry}
use Rattle.aml_objects.specs.declared.entry.NamedObject.{NamedObject}
use Rattle.aml_objects.specs.declared.object.Element.{Element}
use Rattle.aml_objects.specs.declared.object.Element.TheVariants as element
use Rattle.aml_objects.specs.declared.object.Object.{Object}
use Rattle.aml_objects.specs.declared.object.Object.TheVariants as object
use Rattle.aml_objects.specs.declared.value.Reference.{Reference}
use Rattle.aml_objects.specs.declared.value.Reference.TheVariants as reference
use Rattle.aml_objects.specs.declared.value.Slot.{Slot}
use Rattle.aml_objects.specs.declared.value.Slot.TheVariants.{Argument}
use Rattle.aml_objects.specs.declared.value.Value.{Value}
use Rattle.aml_objects.specs.declared.value.Value.TheVariants as value
use Rattle.aml_namespace.specs.Namespace.{replaced}
use Rattle.aml_world.specs.declared.values.store_target.Holding.TheVariants as holding
use Rattle.aml_world.specs.declared.values.store_target.StoreTarget.TheVariants as targets
use Rattle.aml_world.specs.declared.state.frame.Frame.{Frame}
use Rattle.aml_world.specs.declared.values.store_target.Stored.{Stored}
use Rattle.aml_world.specs.declared.values.store_target.Stored.TheVariants as store
use Rattle.aml_world.specs.state.State.{State, on_objects, on_names}
use Rattle.aml_world.specs.state.Slots.{slot_in, frame_index}
use Rattle.aml_world.specs.values.StoreTargets.{holding_of, held_at, latest_frame, frame_found, slot_held, most_references}
use Rattle.aml_world.specs.values.Stores.{slot_put, copy_into_slot, copy_into_name, copy_into_element, store_over_value, store_over_slot, store_in_frame, store_in_frame_numbered, store_in_slot, stored_through, store_byte, byte_in, store_in_name, copy_in_name, stored, copied_to}
use Rattle.aml_laws.specs.Copyable.{IsCopyable}
use Rattle.aml_laws.specs.StoredNames.{data_entry, with_object_numbered}
use Rattle.aml_laws.specs.StoredParts.{CopyMade, TakesCopies, a_local, an_argument, SlotTakesCopy, ElementTakesCopy, NameTakesCopy, TakesUnconverted, for_package, for_reference, for_no_value, GivesByte, of_integer, of_string, of_buffer, ByteTaken, in_string, in_buffer, IsNoData, uninitialized, a_package, a_reference, HoldsNothing, scope, device, processor, power_resource, thermal_zone, method, region, mutex, event}
use Rattle.aml_laws.proofs.CopiesAnswered.{copy_answers}
use Rattle.aml_laws.proofs.CopiesApart.{copy_is_apart, stays}

-- ---- a copy that is made in a world

module _ {S : Type 0} (w : State S) (v : Value) where
  record Made (count : ℕ) : Type 0 where
    copy : Value
    made : Objects
    answers : on_objects (copied v) w ≡ (Ok copy, record w { objects = w.objects ++ made })
    apart : CopyMade w.objects v copy count made

  made_so : (copy : Value) (made : Objects) → copied v w.objects ≡ (Ok copy, w.objects ++ made) → on_objects (copied v) w ≡ (Ok copy, record w { objects = w.objects ++ made })
  unfolding on_objects
  made_so copy made e = rw e refl

  made_there : (count : ℕ) → IsCopyable w.objects 64 count v → length w.objects + count ≤ 262144 → Made count
  made_there count is room =
      let c = copy_answers w.objects count v is room in
      record { copy = c.0; made = c.1.0; answers = made_so c.0 c.1.0 c.1.1.0; apart = record { is = copy_is_apart w.objects (w.objects ++ c.1.0) v c.0 c.1.1.0; many = c.1.1.1 } }

-- one that is refused leaves the objects
left_whole : (h after : Objects) (x : Outcome Value) (e : Refusal) → (if_whole h x after).0 ≡ Err e → if_whole h x after ≡ (Err e, h)
left_whole h after (Ok u) e is = absurd (cc is)
left_whole h after (Err d) e is = ap (λ (x : Outcome Value). (x, h)) is

copy_leaves : (h : Objects) (v : Value) (e : Refusal) → (copied v h).0 ≡ Err e → copied v h ≡ (Err e, h)
unfolding copied whole
copy_leaves h v e is = let p = value_copy (package_copy 64) v h in left_whole h p.1 p.0 e is

not_copied : {S : Type 0} (w : State S) (v : Value) (e : Refusal) → (copied v w.objects).0 ≡ Err e → on_objects (copied v) w ≡ (Err e, w)
unfolding on_objects
not_copied w v e is = rw (copy_leaves w.objects v e is) refl

-- ---- slots

over_argument : {S : Type 0} (through : Reference → Value → Change (State S) Stored) (k i : ℕ) (held v : Value) → ((r : Reference) → held ≢ value.Reference r) → store_over_slot through k (Argument i) held v ≡ copy_into_slot k (Argument i) v
over_argument through k i value.Uninitialized v other = refl
over_argument through k i (value.Integer n) v other = refl
over_argument through k i (value.String o) v other = refl
over_argument through k i (value.Buffer o) v other = refl
over_argument through k i (value.Package o) v other = refl
over_argument through k i (value.Reference r) v other = absurd (other r refl)

by_copy : {S : Type 0} (through : Reference → Value → Change (State S) Stored) (k : ℕ) (f : Frame) (slot : Slot) (v : Value) → TakesCopies f slot → store_over_slot through k slot (slot_in f slot) v ≡ copy_into_slot k slot v
by_copy through k f _ v (a_local i) = refl
by_copy through k f _ v (an_argument i other) = over_argument through k i (slot_in f (Argument i)) v other

module _ {S : Type 0} (w : State S) (k : ℕ) (f : Frame) (slot : Slot) (v : Value) (at : slice_get w.frames k ≡ Some f) (takes : TakesCopies f slot) where
  in_frame : (through : Reference → Value → Change (State S) Stored) → store_in_frame through k slot v w ≡ copy_into_slot k slot v w
  unfolding store_in_frame slot_held go_on ◌>>=◌
  in_frame through = rw at (ap (λ (change : Change (State S) Stored). change w) (by_copy through k f slot v takes))

  in_latest : length w.frames ≡ suc k → stored (targets.Slot slot) v w ≡ copy_into_slot k slot v w
  unfolding store_in_slot latest_frame go_on ◌>>=◌
  in_latest latest = rw latest (in_frame (stored_through most_references))

  stored_in_referred : (n : ℕ) → frame_index n w.frames ≡ Some k → stored (targets.Refers (reference.Slot slot n)) v w ≡ copy_into_slot k slot v w
  unfolding store_in_frame_numbered frame_found go_on ◌>>=◌
  stored_in_referred n stands = rw stands (in_frame (stored_through most_references))

  copied_in_referred : (n : ℕ) → frame_index n w.frames ≡ Some k → copied_to (targets.Refers (reference.Slot slot n)) v w ≡ copy_into_slot k slot v w
  unfolding stored_through store_in_frame_numbered frame_found go_on ◌>>=◌
  copied_in_referred n stands = rw stands (in_frame (stored_through 63))

  slot_put_so : {count : ℕ} (m : Made w v count) → copy_into_slot k slot v w ≡ (Ok store.Done, (slot_put k slot m.copy (record w { objects = w.objects ++ m.made })).1)
  unfolding copy_into_slot slot_put give go_on ◌>>=◌
  slot_put_so m = rw m.answers refl

  slot_refused : (e : Refusal) → (copied v w.objects).0 ≡ Err e → copy_into_slot k slot v w ≡ (Err e, w)
  unfolding copy_into_slot go_on ◌>>=◌
  slot_refused e is = rw (not_copied w v e is) refl

module _ {S : Type 0} (w : State S) (k : ℕ) (f : Frame) (slot : Slot) (v : Value) where
  pub latest_takes : (count : ℕ) → length w.frames ≡ suc k → slice_get w.frames k ≡ Some f → TakesCopies f slot → IsCopyable w.objects 64 count v → length w.objects + count ≤ 262144
      → (after : State S) × ((stored (targets.Slot slot) v w ≡ (Ok store.Done, after)) × ((copied_to (targets.Slot slot) v w ≡ (Ok store.Done, after)) × SlotTakesCopy w after k slot v count))
  latest_takes count latest at takes is room =
      let m = made_there w v count is room in
      let done = in_latest w k f slot v at takes latest ∙ slot_put_so w k f slot v at takes m in
      ((slot_put k slot m.copy (record w { objects = w.objects ++ m.made })).1, (done, (done, record { copy = m.copy; made = m.made; copied = m.apart; put = refl })))

  pub referred_takes : (n count : ℕ) → frame_index n w.frames ≡ Some k → slice_get w.frames k ≡ Some f → TakesCopies f slot → IsCopyable w.objects 64 count v → length w.objects + count ≤ 262144
      → (after : State S) × ((stored (targets.Refers (reference.Slot slot n)) v w ≡ (Ok store.Done, after)) × ((copied_to (targets.Refers (reference.Slot slot n)) v w ≡ (Ok store.Done, after)) × SlotTakesCopy w after k slot v count))
  referred_takes n count stands at takes is room =
      let m = made_there w v count is room in
      let put = slot_put_so w k f slot v at takes m in (
        (slot_put k slot m.copy (record w { objects = w.objects ++ m.made })).1,
        (
          stored_in_referred w k f slot v at takes n stands ∙ put,
          (copied_in_referred w k f slot v at takes n stands ∙ put, record { copy = m.copy; made = m.made; copied = m.apart; put = refl }),
        ),
      )

  pub latest_refuses : (e : Refusal) → length w.frames ≡ suc k → slice_get w.frames k ≡ Some f → TakesCopies f slot → (copied v w.objects).0 ≡ Err e → (stored (targets.Slot slot) v w ≡ (Err e, w)) × (copied_to (targets.Slot slot) v w ≡ (Err e, w))
  latest_refuses e latest at takes is = let refused = in_latest w k f slot v at takes latest ∙ slot_refused w k f slot v at takes e is in (refused, refused)

  pub referred_refuses : (n : ℕ) (e : Refusal) → frame_index n w.frames ≡ Some k → slice_get w.frames k ≡ Some f → TakesCopies f slot → (copied v w.objects).0 ≡ Err e
      → (stored (targets.Refers (reference.Slot slot n)) v w ≡ (Err e, w)) × (copied_to (targets.Refers (reference.Slot slot n)) v w ≡ (Err e, w))
  referred_refuses n e stands at takes is =
      let refused = slot_refused w k f slot v at takes e is in
      (stored_in_referred w k f slot v at takes n stands ∙ refused, copied_in_referred w k f slot v at takes n stands ∙ refused)

-- ---- elements

module _ {S : Type 0} (w : State S) (o i : ℕ) (es : List Element) (at : slice_get w.objects o ≡ Some (object.Package es)) (less : i < length es) (v : Value) where
  is_less : nat_lt i (length es) ≡ true
  is_less = grind (arith, nat_tests)

  element_stands : on_objects (element_there o i) w ≡ (Ok tt, w)
  unfolding on_objects element_there
  element_stands = rw (at, is_less) refl

  element_is_put : (made : Objects) (copy : Value) → on_objects (write_element o i (element.Value copy)) (record w { objects = w.objects ++ made }) ≡ (Ok tt, record w { objects = slice_set (w.objects ++ made) o (object.Package (slice_set es i (element.Value copy))) })
  unfolding on_objects write_element
  element_is_put made copy = let late = stays w.objects made o (object.Package es) at in rw (late, is_less) refl

  element_put : {count : ℕ} (m : Made w v count) → copy_into_element o i v w ≡ (Ok store.Done, record w { objects = slice_set (w.objects ++ m.made) o (object.Package (slice_set es i (element.Value m.copy))) })
  unfolding copy_into_element give go_on ◌>>=◌
  element_put m = rw (element_stands, m.answers, element_is_put m.made m.copy) refl

  pub element_stored : (count : ℕ) → IsCopyable w.objects 64 count v → length w.objects + count ≤ 262144 → (after : State S) × ((stored (targets.Refers (reference.Element o i)) v w ≡ (Ok store.Done, after)) × ElementTakesCopy w after o i es v count)
  element_stored count is room =
      let m = made_there w v count is room in (
        record w { objects = slice_set (w.objects ++ m.made) o (object.Package (slice_set es i (element.Value m.copy))) },
        (element_put m, record { copy = m.copy; made = m.made; copied = m.apart; put = refl }),
      )

  pub element_refuses : (e : Refusal) → (copied v w.objects).0 ≡ Err e → stored (targets.Refers (reference.Element o i)) v w ≡ (Err e, w)
  unfolding copy_into_element go_on ◌>>=◌
  element_refuses e is = rw (element_stands, not_copied w v e is) refl

-- ---- bytes

module _ {S : Type 0} (w : State S) where
  byte_given : (v : Value) (b : ℕ) → GivesByte w v b → byte_in v w ≡ (Ok b, w)
  unfolding byte_in
  byte_given _ _ (of_integer n) = refl
  byte_given _ _ (of_string o b bytes at) = rw at refl
  byte_given _ _ (of_buffer o b bytes at) = rw at refl

  byte_there : (o i b : ℕ) (old new : Object) → slice_get w.objects o ≡ Some old → ByteTaken i b old new → (x : ℕ) × (on_objects (byte_at o i) w ≡ (Ok x, w))
  unfolding on_objects byte_at
  byte_there o i b _ _ at (in_string bytes less) = (get_or bytes i 0, rw (at, slice_get-get_or bytes i 0 less) refl)
  byte_there o i b _ _ at (in_buffer bytes less) = (get_or bytes i 0, rw (at, slice_get-get_or bytes i 0 less) refl)

  byte_put : (o i b : ℕ) (old new : Object) → slice_get w.objects o ≡ Some old → ByteTaken i b old new → on_objects (write_byte o i b) w ≡ (Ok tt, with_object_numbered w o new)
  unfolding on_objects write_byte
  byte_put o i b _ _ at (in_string bytes less) = let few : nat_lt i (length bytes) ≡ true = grind (arith, nat_tests) in rw (at, few) refl
  byte_put o i b _ _ at (in_buffer bytes less) = let few : nat_lt i (length bytes) ≡ true = grind (arith, nat_tests) in rw (at, few) refl

  pub byte_stored : (o i : ℕ) (v : Value) (b : ℕ) (old new : Object) → slice_get w.objects o ≡ Some old → GivesByte w v b → ByteTaken i b old new → stored (targets.Refers (reference.Byte o i)) v w ≡ (Ok store.Done, with_object_numbered w o new)
  unfolding store_byte give go_on ◌>>=◌
  byte_stored o i v b old new at gives taken = let there = byte_there o i b old new at taken in rw (there.1, byte_given v b gives, byte_put o i b old new at taken) refl

  module _ (o i : ℕ) (old new : Object) (at : slice_get w.objects o ≡ Some old) (taken : ByteTaken i 0 old new) where
    refused_so : (v : Value) (e : Refusal) → byte_in v w ≡ (Err e, w) → stored (targets.Refers (reference.Byte o i)) v w ≡ (Err e, w)
    unfolding store_byte give go_on ◌>>=◌
    refused_so v e is = let there = byte_there o i 0 old new at taken in rw (there.1, is) refl

    empty_so : (p : ℕ) → (slice_get w.objects p ≡ Some (object.String []) → byte_in (value.String p) w ≡ (Err (refusal.Value EmptyValue), w)) × (slice_get w.objects p ≡ Some (object.Buffer []) → byte_in (value.Buffer p) w ≡ (Err (refusal.Value EmptyValue), w))
    unfolding byte_in
    empty_so p = (λ is. rw is refl, λ is. rw is refl)

    other_so : (v : Value) → IsNoData v → byte_in v w ≡ (Err (refusal.Value WrongType), w)
    unfolding byte_in
    other_so _ uninitialized = refl
    other_so _ (a_package p) = refl
    other_so _ (a_reference r) = refl

  pub empty_byte : (o i p : ℕ) (old new : Object) → slice_get w.objects o ≡ Some old → ByteTaken i 0 old new
      → (slice_get w.objects p ≡ Some (object.String []) → stored (targets.Refers (reference.Byte o i)) (value.String p) w ≡ (Err (refusal.Value EmptyValue), w))
      × (slice_get w.objects p ≡ Some (object.Buffer []) → stored (targets.Refers (reference.Byte o i)) (value.Buffer p) w ≡ (Err (refusal.Value EmptyValue), w))
  empty_byte o i p old new at taken =
      let none = empty_so o i old new at taken p in
      (λ is. refused_so o i old new at taken (value.String p) (refusal.Value EmptyValue) (none.0 is), λ is. refused_so o i old new at taken (value.Buffer p) (refusal.Value EmptyValue) (none.1 is))

  pub no_byte : (o i : ℕ) (v : Value) (old new : Object) → slice_get w.objects o ≡ Some old → ByteTaken i 0 old new → IsNoData v → stored (targets.Refers (reference.Byte o i)) v w ≡ (Err (refusal.Value WrongType), w)
  no_byte o i v old new at taken is = refused_so o i old new at taken v (refusal.Value WrongType) (other_so o i old new at taken v is)

-- ---- names

module _ {S : Type 0} (w : State S) (path : List Seg) where
  pub over_reference : (number : ℕ) (r : Reference) (v : Value) → get w.names.map path ≡ Some (data_entry number (value.Reference r)) → stored (targets.Name path) v w ≡ copied_to (targets.Name path) v w
  unfolding store_in_name copy_in_name held_at go_on ◌>>=◌
  over_reference number r v at = rw at refl

  nothing_held : (o : NamedObject) → HoldsNothing o → holding_of o ≡ holding.Nothing
  nothing_held _ scope = refl
  nothing_held _ device = refl
  nothing_held _ processor = refl
  nothing_held _ power_resource = refl
  nothing_held _ thermal_zone = refl
  nothing_held _ (method m) = refl
  nothing_held _ (region r) = refl
  nothing_held _ (mutex n) = refl
  nothing_held _ (event n) = refl

  pub over_nothing : (e : Entry) (v : Value) → get w.names.map path ≡ Some e → HoldsNothing e.object → (stored (targets.Name path) v w ≡ (Err (refusal.Value WrongType), w)) × (copied_to (targets.Name path) v w ≡ (Err (refusal.Value WrongType), w))
  unfolding store_in_name copy_in_name held_at stop go_on ◌>>=◌
  over_nothing e v at is = (rw (at, nothing_held e.object is) refl, rw (at, nothing_held e.object is) refl)

-- ---- names that take copies

unconverted : {S : Type 0} (old v : Value) (path : List Seg) → TakesUnconverted old v → store_over_value {S = S} old path v ≡ copy_into_name path v
unconverted _ _ path (for_package m o) = refl
unconverted _ _ path (for_reference r v) = refl
unconverted _ _ path (for_no_value v) = refl

module _ {S : Type 0} (w : State S) (path : List Seg) (number : ℕ) (old v : Value) (at : get w.names.map path ≡ Some (data_entry number old)) where
  copied_in_name : copied_to (targets.Name path) v w ≡ copy_into_name path v w
  unfolding copy_in_name held_at go_on ◌>>=◌
  copied_in_name = rw at refl

  stored_in_name : TakesUnconverted old v → stored (targets.Name path) v w ≡ copy_into_name path v w
  unfolding store_in_name held_at go_on ◌>>=◌
  stored_in_name takes = rw at (ap (λ (change : Change (State S) Stored). change w) (unconverted old v path takes))

  name_put_so : {count : ℕ} (m : Made w v count) → copy_into_name path v w ≡ (Ok store.Done, record w { names = record w.names { map = insert w.names.map path (data_entry number m.copy) }; objects = w.objects ++ m.made })
  unfolding copy_into_name on_names replaced give go_on ◌>>=◌
  name_put_so m = rw (m.answers, at) refl

  name_refused : (e : Refusal) → (copied v w.objects).0 ≡ Err e → copy_into_name path v w ≡ (Err e, w)
  unfolding copy_into_name go_on ◌>>=◌
  name_refused e is = rw (not_copied w v e is) refl

module _ {S : Type 0} (w : State S) (path : List Seg) (number : ℕ) (old v : Value) where
  taken_by : (t : Outcome Stored × State S) (count : ℕ) → get w.names.map path ≡ Some (data_entry number old) → t ≡ copy_into_name path v w → IsCopyable w.objects 64 count v → length w.objects + count ≤ 262144
      → (after : State S) × ((t ≡ (Ok store.Done, after)) × NameTakesCopy w after path number v count)
  taken_by t count at by is room =
      let m = made_there w v count is room in (
        record w { names = record w.names { map = insert w.names.map path (data_entry number m.copy) }; objects = w.objects ++ m.made },
        (by ∙ name_put_so w path number old v at m, record { copy = m.copy; made = m.made; copied = m.apart; put = refl }),
      )

  pub name_copied : (count : ℕ) → get w.names.map path ≡ Some (data_entry number old) → IsCopyable w.objects 64 count v → length w.objects + count ≤ 262144
      → (after : State S) × ((copied_to (targets.Name path) v w ≡ (Ok store.Done, after)) × NameTakesCopy w after path number v count)
  name_copied count at is room = taken_by (copied_to (targets.Name path) v w) count at (copied_in_name w path number old v at) is room

  pub name_stored : (count : ℕ) → get w.names.map path ≡ Some (data_entry number old) → TakesUnconverted old v → IsCopyable w.objects 64 count v → length w.objects + count ≤ 262144
      → (after : State S) × ((stored (targets.Name path) v w ≡ (Ok store.Done, after)) × NameTakesCopy w after path number v count)
  name_stored count at takes is room = taken_by (stored (targets.Name path) v w) count at (stored_in_name w path number old v at takes) is room

  pub name_refuses : (e : Refusal) → get w.names.map path ≡ Some (data_entry number old) → (copied v w.objects).0 ≡ Err e
      → (copied_to (targets.Name path) v w ≡ (Err e, w)) × (TakesUnconverted old v → stored (targets.Name path) v w ≡ (Err e, w))
  name_refuses e at is =
      let refused = name_refused w path number old v at e is in
      (copied_in_name w path number old v at ∙ refused, λ takes. stored_in_name w path number old v at takes ∙ refused)

-- ---- CopyObject to slots and parts

module _ {S : Type 0} (w : State S) where
  pub slot_copied : (slot : Slot) (v : Value) → copied_to (targets.Slot slot) v w ≡ stored (targets.Slot slot) v w
  slot_copied slot v = refl

  pub element_copied : (o i : ℕ) (v : Value) → copied_to (targets.Refers (reference.Element o i)) v w ≡ stored (targets.Refers (reference.Element o i)) v w
  unfolding stored_through
  element_copied o i v = refl

  pub byte_copied : (o i : ℕ) (v : Value) → copied_to (targets.Refers (reference.Byte o i)) v w ≡ stored (targets.Refers (reference.Byte o i)) v w
  unfolding stored_through
  byte_copied o i v = refl

-- ---- no target

pub nowhere_stored : {S : Type 0} (w : State S) (v : Value) → stored targets.Nowhere v w ≡ (Ok store.Done, w)
unfolding give
nowhere_stored w v = refl

pub nowhere_copied : {S : Type 0} (w : State S) (v : Value) → copied_to targets.Nowhere v w ≡ (Ok store.Done, w)
unfolding give
nowhere_copied w v = refl
