-- Reading, storing and acquiring at a target preserve every world relation.
use Rattle.std.specs.Prelude.{Bool, ◌≡◌, ℕ, zero, suc, List, [], ◌∷◌, Option, Some, None, Ok, slice_get, slice_set, refl}
use Rattle.std.specs.FinMap.{get}
use Rattle.std.proofs.Common.{ap, sym, subst, ◌∙◌}
use Rattle.ar_space.specs.Accesses.{Accesses}
use Rattle.ar_space.specs.Outcome.{Outcome}
use Rattle.ar_space.specs.Change.{Change, settle, ◌>>=◌}
use Rattle.aml_path.specs.declared.segment.Seg.{Seg}
use Rattle.aml_path.specs.Paths.{Name}
use Rattle.aml_objects.specs.declared.value.Value.{Value}
use Rattle.aml_objects.specs.declared.value.Value.TheVariants as value
use Rattle.aml_objects.specs.declared.value.Slot.{Slot}
use Rattle.aml_objects.specs.declared.value.Slot.TheVariants.{Local, Argument}
use Rattle.aml_objects.specs.declared.value.Reference.{Reference}
use Rattle.aml_objects.specs.declared.value.Reference.TheVariants as reference
use Rattle.aml_objects.specs.declared.object.Element.{Element}
use Rattle.aml_objects.specs.declared.object.Element.TheVariants as element
use Rattle.aml_objects.specs.declared.entry.Entry.{Entry}
use Rattle.aml_objects.specs.declared.entry.NamedObject.{NamedObject}
use Rattle.aml_objects.specs.declared.entry.NamedObject.TheVariants as object
use Rattle.aml_world.specs.declared.values.store_target.StoreTarget.{StoreTarget}
use Rattle.aml_world.specs.declared.values.store_target.StoreTarget.TheVariants as targets
use Rattle.aml_world.specs.declared.values.store_target.Holding.{Holding}
use Rattle.aml_world.specs.declared.values.store_target.Holding.TheVariants as holding
use Rattle.aml_world.specs.declared.values.store_target.Stored.{Stored}
use Rattle.aml_world.specs.declared.values.object_type.Referent.{Referent}
use Rattle.aml_world.specs.declared.values.object_type.Referent.TheVariants as referent
use Rattle.aml_namespace.specs.Namespace.{replaced, numbered}
use Rattle.aml_namespace.proofs.Numbering.{numbered_stands}
use Rattle.aml_world.specs.state.State.{State, on_objects, on_names}
use Rattle.aml_world.specs.state.Readings.{read_as, integer_in}
use Rattle.aml_world.specs.values.StoreTargets.{holding_of, holding_in, held_at, latest_frame, frame_found, slot_held, own_slot, slot_read, name_read, held_in_slot, target_read, declaration, byte_followed, value_followed, referent_followed, declared_followed, slot_followed, element_named, name_followed, element_followed, held_followed, reference_followed, followed, slot_referent, declared_referent, name_referent, target_referent, name_tested, frame_tested, byte_tested, tested, declared_once, value_once, slot_once, name_once, element_once, held_once, byte_once, dereferenced, frame_number, slot_reference, declared_number, name_reference, reference_of, slot_initialized, element_initialized, if_initialized, reference_if_found, most_references}
use Rattle.aml_world.specs.declared.state.frame.Frame.{Frame}
use Rattle.aml_world.specs.state.Slots.{with_slot}
use Rattle.aml_world.specs.values.Stores.{with_frame, slot_put, copy_into_slot, copy_into_name, copy_into_element, copy_over, text_in, bytes_in, store_integer, store_text, store_bytes, store_package, store_over_value, store_over, byte_in, store_byte, copy_into_declared, store_over_slot, store_in_declared, store_to, store_in_frame, store_in_frame_numbered, store_at_reference, stored_through, store_in_slot, store_in_name, stored, copy_in_name, copied_to}
use Rattle.aml_world.specs.state.Mutexes.{count_of_object, count_in, once_more, once_less, mutex_count, acquired, given_back, acquired_by_number, given_back_by_number, acquired_by, given_back_by, acquired_at, given_back_at}
use Rattle.aml_laws.specs.Histories.{TakesPlaceOf}
use Rattle.aml_laws.specs.Histories as puts
use Rattle.aml_laws.specs.Numbers.{numbers_of}
use Rattle.aml_laws.proofs.LocatedRegions.{declaration_found}
use Rattle.aml_laws.proofs.ObjectKinds.{byte_at_keeps_kinds, element_at_keeps_kinds, element_there_keeps_kinds, copied_keeps_kinds, write_element_keeps_kinds, write_string_keeps_kinds, write_buffer_keeps_kinds, write_byte_keeps_kinds}
use Rattle.aml_laws.proofs.WorldRelations.{WorldRelationOf, Preserves, PreservesWhere, MayPut, TakesValues, unchanged_preserves, give_preserves, stop_preserves, settle_preserves, then_preserves, on_objects_preserves, replaced_preserves, preserves_anywhere, where_then_preserves, then_preserves_where, finding_preserves_where, finding_preserves}
use Rattle.aml_laws.proofs.ChangesPreserve.{entry_found_preserves}

-- a slot's value does not change the frame's number
with_slot_number : (f : Frame) (slot : Slot) (v : Value) → (with_slot f slot v).number ≡ f.number
with_slot_number f (Local i) v = refl
with_slot_number f (Argument i) v = refl

numbers_after_set : (frames : List Frame) (k : ℕ) (f g : Frame) → slice_get frames k ≡ Some f → g.number ≡ f.number → numbers_of (slice_set frames k g) ≡ numbers_of frames
numbers_after_set [] k f g at is = absurd (cc at)
numbers_after_set (x ∷ xs) zero f g at is = let same : f ≡ x = cc at in ap (λ n. n ∷ numbers_of xs) (is ∙ ap (λ (y : Frame). y.number) same)
numbers_after_set (x ∷ xs) (suc k) f g at is = ap (λ ns. x.number ∷ ns) (numbers_after_set xs k f g at is)

pub with_frame_numbers : (o : Option Frame) (k : ℕ) (slot : Slot) (v : Value) (frames : List Frame) → slice_get frames k ≡ o → numbers_of (with_frame o k slot v frames) ≡ numbers_of frames
with_frame_numbers None k slot v frames at = refl
with_frame_numbers (Some f) k slot v frames at = numbers_after_set frames k f _ at (with_slot_number f slot v)

-- ---- what may be put in the place of what stands

same_entry : (d e : Entry) → ◌≡◌ {A = Option Entry} (Some d) (Some e) → d ≡ e
same_entry d e is = cc is

-- where a name that holds a value stands, it may be replaced by another
abbrev pub HoldsThere : {S : Type 0} → Holding → List Seg → State S → Type 0
HoldsThere (holding.Value old) q w = TakesValues q w
HoldsThere (holding.Field f) q w = Unit {0}
HoldsThere holding.Nothing q w = Unit {0}

-- where a mutex stands, it may be replaced by one with another count
abbrev TakesCounts : {S : Type 0} → List Seg → State S → Type 0
TakesCounts q w = (m : ℕ) → MayPut q (object.Mutex m) w

module _ {S : Type 0} (w : State S) (q : List Seg) where
  -- what stands there is this object
  pub put_there : (new old : NamedObject) (e : Entry) → get w.names.map q ≡ Some e → e.object ≡ old → TakesPlaceOf new old → MayPut q new w
  put_there new old e at is takes d there = subst (TakesPlaceOf new) (sym is ∙ ap (λ (x : Entry). x.object) (same_entry e d (sym at ∙ there))) takes

  pub takes_values : (e : Entry) (o : NamedObject) → get w.names.map q ≡ Some e → e.object ≡ o → HoldsThere (holding_of o) q w
  takes_values e (object.Data old) at is = λ v. put_there (object.Data v) (object.Data old) e at is (puts.of_value v old)
  takes_values e _ at is = tt

  pub holding_there : (o : Option Entry) (h : Holding) → get w.names.map q ≡ o → holding_in o ≡ Ok h → HoldsThere h q w
  holding_there None h at is = absurd (cc is)
  holding_there (Some e) h at is = let same : holding_of e.object ≡ h = cc is in subst (λ x. HoldsThere x q w) same (takes_values e e.object at refl)

  takes_counts : (e : Entry) (o : NamedObject) (n : ℕ) → get w.names.map q ≡ Some e → e.object ≡ o → count_of_object o ≡ Ok n → TakesCounts q w
  takes_counts e (object.Mutex old) n at is counts m = put_there (object.Mutex m) (object.Mutex old) e at is (puts.of_mutex m old)
  takes_counts e _ n at is counts m = absurd (cc counts)

  counts_there : (o : Option Entry) (n : ℕ) → get w.names.map q ≡ o → count_in o ≡ Ok n → TakesCounts q w
  counts_there None n at is = absurd (cc is)
  counts_there (Some e) n at is = takes_counts e e.object n at refl is

module _ {S : Type 0} {listed : Bool} {accesses : Accesses S} {relation : WorldRelationOf listed accesses} where
  -- ---- what stands there

  pub held_at_preserves : (q : List Seg) → Preserves relation (held_at q)
  unfolding held_at
  held_at_preserves q = unchanged_preserves _ (λ w. refl)

  pub latest_frame_preserves : Preserves relation (latest_frame)
  unfolding latest_frame
  latest_frame_preserves = unchanged_preserves _ (λ w. refl)

  pub frame_found_preserves : (n : ℕ) → Preserves relation (frame_found n)
  unfolding frame_found
  frame_found_preserves n = unchanged_preserves _ (λ w. refl)

  pub slot_held_preserves : (k : ℕ) (slot : Slot) → Preserves relation (slot_held k slot)
  unfolding slot_held
  slot_held_preserves k slot = unchanged_preserves _ (λ w. refl)

  pub own_slot_preserves : (slot : Slot) → Preserves relation (own_slot slot)
  unfolding own_slot
  own_slot_preserves slot = then_preserves _ _ latest_frame_preserves (λ k. slot_held_preserves k slot)

  pub slot_read_preserves : (slot : Slot) → Preserves relation (slot_read slot)
  unfolding slot_read
  slot_read_preserves slot = then_preserves _ _ (own_slot_preserves slot) (λ v. settle_preserves _)

  pub name_read_preserves : (q : List Seg) → Preserves relation (name_read q)
  unfolding name_read
  name_read_preserves q = then_preserves _ _ (held_at_preserves q) (λ h. settle_preserves _)

  pub held_in_slot_preserves : (slot : Slot) → Preserves relation (held_in_slot slot)
  unfolding held_in_slot
  held_in_slot_preserves slot = then_preserves _ _ (slot_read_preserves slot) (λ v. give_preserves _)

  pub declaration_preserves : (n : ℕ) → Preserves relation (declaration n)
  unfolding declaration
  declaration_preserves n = unchanged_preserves _ (λ w. refl)

  pub tested_preserves : (r : Reference) → Preserves relation (tested r)
  unfolding name_tested frame_tested byte_tested
  tested_preserves (reference.Name n) = then_preserves _ _ (declaration_preserves n) (λ e. give_preserves _)
  tested_preserves (reference.Slot slot n) = then_preserves _ _ (frame_found_preserves n) (λ k. give_preserves _)
  tested_preserves (reference.Element o i) = on_objects_preserves _ (element_there_keeps_kinds o i)
  tested_preserves (reference.Byte o i) = then_preserves _ _ (on_objects_preserves _ (byte_at_keeps_kinds o i)) (λ b. give_preserves _)

  value_once_preserves : (v : Value) → Preserves relation (value_once v)
  unfolding value_once
  value_once_preserves v = then_preserves _ _ (settle_preserves _) (λ x. give_preserves _)

  element_once_preserves : (e : Element) → Preserves relation (element_once e)
  unfolding name_once
  element_once_preserves (element.Value v) = value_once_preserves v
  element_once_preserves (element.Name n scope) = then_preserves _ _ (entry_found_preserves scope n) (λ e. give_preserves _)

  pub dereferenced_preserves : (r : Reference) → Preserves relation (dereferenced r)
  unfolding declared_once slot_once held_once byte_once
  dereferenced_preserves (reference.Name n) = then_preserves _ _ (declaration_preserves n) (λ e. give_preserves _)
  dereferenced_preserves (reference.Slot slot n) = then_preserves _ _ (frame_found_preserves n) (λ k. then_preserves _ _ (slot_held_preserves k slot) (λ v. value_once_preserves v))
  dereferenced_preserves (reference.Element o i) = then_preserves _ _ (on_objects_preserves _ (element_at_keeps_kinds o i)) (λ e. element_once_preserves e)
  dereferenced_preserves (reference.Byte o i) = then_preserves _ _ (on_objects_preserves _ (byte_at_keeps_kinds o i)) (λ b. give_preserves _)

  pub target_read_preserves : (at : StoreTarget) → Preserves relation (target_read at)
  target_read_preserves targets.Nowhere = stop_preserves _
  target_read_preserves (targets.Slot slot) = held_in_slot_preserves slot
  target_read_preserves (targets.Name q) = name_read_preserves q
  target_read_preserves (targets.Refers r) = dereferenced_preserves r

  frame_number_preserves : (k : ℕ) → Preserves relation (frame_number k)
  unfolding frame_number
  frame_number_preserves k = unchanged_preserves _ (λ w. refl)

  pub declared_number_preserves : (q : List Seg) → Preserves relation (declared_number q)
  unfolding declared_number
  declared_number_preserves q = unchanged_preserves _ (λ w. refl)

  pub reference_of_preserves : (at : StoreTarget) → Preserves relation (reference_of at)
  unfolding slot_reference name_reference
  reference_of_preserves targets.Nowhere = stop_preserves _
  reference_of_preserves (targets.Slot slot) = then_preserves _ _ latest_frame_preserves (λ k. then_preserves _ _ (frame_number_preserves k) (λ n. give_preserves _))
  reference_of_preserves (targets.Name q) = then_preserves _ _ (declared_number_preserves q) (λ n. give_preserves _)
  reference_of_preserves (targets.Refers r) = give_preserves _

  pub if_initialized_preserves : (r : Reference) → Preserves relation (if_initialized r)
  unfolding slot_initialized element_initialized
  if_initialized_preserves (reference.Name n) = give_preserves _
  if_initialized_preserves (reference.Slot slot n) = then_preserves _ _ (frame_found_preserves n) (λ k. then_preserves _ _ (slot_held_preserves k slot) (λ v. give_preserves _))
  if_initialized_preserves (reference.Element o i) = then_preserves _ _ (on_objects_preserves _ (element_at_keeps_kinds o i)) (λ e. give_preserves _)
  if_initialized_preserves (reference.Byte o i) = give_preserves _

  pub reference_if_found_preserves : (scope : List Seg) (n : Name) → Preserves relation (reference_if_found scope n)
  unfolding reference_if_found
  reference_if_found_preserves scope n = unchanged_preserves _ (λ w. refl)

  pub byte_followed_preserves : (o i : ℕ) → Preserves relation (byte_followed o i)
  unfolding byte_followed
  byte_followed_preserves o i = then_preserves _ _ (on_objects_preserves _ (byte_at_keeps_kinds o i)) (λ b. give_preserves _)

  module _ (follow : Reference → Change (State S) Referent) (follows : (r : Reference) → Preserves relation (follow r)) where
    value_followed_preserves : (v : Value) → Preserves relation (value_followed follow v)
    value_followed_preserves value.Uninitialized = give_preserves _
    value_followed_preserves (value.Integer n) = give_preserves _
    value_followed_preserves (value.String o) = give_preserves _
    value_followed_preserves (value.Buffer o) = give_preserves _
    value_followed_preserves (value.Package o) = give_preserves _
    value_followed_preserves (value.Reference r) = follows r

    referent_followed_preserves : (r : Referent) → Preserves relation (referent_followed follow r)
    referent_followed_preserves (referent.Value v) = value_followed_preserves v
    referent_followed_preserves (referent.Object t) = give_preserves _
    referent_followed_preserves (referent.Field u) = give_preserves _
    referent_followed_preserves (referent.Bytes n) = give_preserves _

    declared_followed_preserves : (n : ℕ) → Preserves relation (declared_followed follow n)
    unfolding declared_followed
    declared_followed_preserves n = then_preserves _ _ (declaration_preserves n) (λ e. referent_followed_preserves _)

    slot_followed_preserves : (n : ℕ) (slot : Slot) → Preserves relation (slot_followed follow n slot)
    unfolding slot_followed
    slot_followed_preserves n slot = then_preserves _ _ (frame_found_preserves n) (λ k. then_preserves _ _ (slot_held_preserves k slot) (λ v. value_followed_preserves v))

    element_named_preserves : (n : ℕ) (o : NamedObject) → Preserves relation (element_named follow n o)
    element_named_preserves n (object.Data v) = value_followed_preserves (read_as n v)
    element_named_preserves n (object.FieldUnit u) = give_preserves _
    element_named_preserves n object.Scope = follows (reference.Name n)
    element_named_preserves n object.Device = follows (reference.Name n)
    element_named_preserves n object.Processor = follows (reference.Name n)
    element_named_preserves n object.PowerResource = follows (reference.Name n)
    element_named_preserves n object.ThermalZone = follows (reference.Name n)
    element_named_preserves n (object.Method m) = follows (reference.Name n)
    element_named_preserves n (object.OperationRegion r) = follows (reference.Name n)
    element_named_preserves n (object.BufferField b) = give_preserves _
    element_named_preserves n (object.Mutex c) = follows (reference.Name n)
    element_named_preserves n (object.Event c) = follows (reference.Name n)
    element_named_preserves n (object.Alias q) = follows (reference.Name n)

    name_followed_preserves : (n : Name) (scope : List Seg) → Preserves relation (name_followed follow n scope)
    unfolding name_followed
    name_followed_preserves n scope = then_preserves _ _ (entry_found_preserves scope n) (λ e. element_named_preserves e.number e.object)

    element_followed_preserves : (e : Element) → Preserves relation (element_followed follow e)
    element_followed_preserves (element.Value v) = value_followed_preserves v
    element_followed_preserves (element.Name n scope) = name_followed_preserves n scope

    held_followed_preserves : (o i : ℕ) → Preserves relation (held_followed follow o i)
    unfolding held_followed
    held_followed_preserves o i = then_preserves _ _ (on_objects_preserves _ (element_at_keeps_kinds o i)) (λ e. element_followed_preserves e)

    reference_followed_preserves : (r : Reference) → Preserves relation (reference_followed follow r)
    reference_followed_preserves (reference.Name n) = declared_followed_preserves n
    reference_followed_preserves (reference.Slot slot n) = slot_followed_preserves n slot
    reference_followed_preserves (reference.Element o i) = held_followed_preserves o i
    reference_followed_preserves (reference.Byte o i) = byte_followed_preserves o i

  followed_preserves : (n : ℕ) (r : Reference) → Preserves relation (followed n r)
  unfolding followed
  followed_preserves zero r = stop_preserves _
  followed_preserves (suc n) r = reference_followed_preserves (followed n) (followed_preserves n) r

  pub slot_referent_preserves : (slot : Slot) → Preserves relation (slot_referent slot)
  unfolding slot_referent
  slot_referent_preserves slot = then_preserves _ _ (own_slot_preserves slot) (λ v. value_followed_preserves _ (followed_preserves _) v)

  pub declared_referent_preserves : (q : List Seg) → Preserves relation (declared_referent q)
  unfolding declared_referent
  declared_referent_preserves q = unchanged_preserves _ (λ w. refl)

  pub name_referent_preserves : (q : List Seg) → Preserves relation (name_referent q)
  unfolding name_referent
  name_referent_preserves q = then_preserves _ _ (declared_referent_preserves q) (λ r. referent_followed_preserves _ (followed_preserves _) r)

  pub target_referent_preserves : (at : StoreTarget) → Preserves relation (target_referent at)
  target_referent_preserves targets.Nowhere = give_preserves _
  target_referent_preserves (targets.Slot slot) = slot_referent_preserves slot
  target_referent_preserves (targets.Name q) = name_referent_preserves q
  target_referent_preserves (targets.Refers r) = followed_preserves _ r

  pub value_referent_preserves : (v : Value) → Preserves relation (value_followed (followed most_references) v)
  value_referent_preserves v = value_followed_preserves _ (followed_preserves _) v

  -- ---- stores

  -- a value at a path where one stands
  value_put_preserves : (q : List Seg) (v : Value) → PreservesWhere (TakesValues q) relation (on_names (replaced q (object.Data v)))
  value_put_preserves q v = record { preserves_where = λ w takes. (replaced_preserves {relation = relation} q (object.Data v)).preserves_where w (takes v) }

  pub slot_put_preserves : (k : ℕ) (slot : Slot) (v : Value) → Preserves relation (slot_put k slot v)
  unfolding slot_put
  slot_put_preserves k slot v = record { preserves = λ w. relation.slots_written w _ (with_frame_numbers (slice_get w.frames k) k slot v w.frames refl) }

  pub copy_into_slot_preserves : (k : ℕ) (slot : Slot) (v : Value) → Preserves relation (copy_into_slot k slot v)
  unfolding copy_into_slot
  copy_into_slot_preserves k slot v = then_preserves _ _ (on_objects_preserves _ (copied_keeps_kinds v)) (λ c. then_preserves _ _ (slot_put_preserves k slot c) (λ put. give_preserves _))

  pub copy_into_name_preserves : (q : List Seg) (v : Value) → PreservesWhere (TakesValues q) relation (copy_into_name q v)
  unfolding copy_into_name on_objects
  copy_into_name_preserves q v = then_preserves_where _ _ (on_objects_preserves _ (copied_keeps_kinds v)) (λ w takes. takes) (λ c. where_then_preserves _ _ (value_put_preserves q c) (λ put. give_preserves _))

  pub copy_into_element_preserves : (o i : ℕ) (v : Value) → Preserves relation (copy_into_element o i v)
  unfolding copy_into_element
  copy_into_element_preserves o i v = then_preserves _ _ (on_objects_preserves _ (element_there_keeps_kinds o i)) (λ there. then_preserves _ _ (on_objects_preserves _ (copied_keeps_kinds v)) (λ c. then_preserves _ _ (on_objects_preserves _ (write_element_keeps_kinds o i _)) (λ put. give_preserves _)))

  pub copy_over_preserves : (h : Holding) (q : List Seg) (v : Value) → PreservesWhere (HoldsThere h q) relation (copy_over h q v)
  copy_over_preserves (holding.Value old) q v = copy_into_name_preserves q v
  copy_over_preserves (holding.Field f) q v = preserves_anywhere _ (give_preserves _)
  copy_over_preserves holding.Nothing q v = preserves_anywhere _ (stop_preserves _)

  pub text_in_preserves : (v : Value) → Preserves relation (text_in v)
  unfolding text_in
  text_in_preserves v = unchanged_preserves _ (λ w. refl)

  pub bytes_in_preserves : (v : Value) → Preserves relation (bytes_in v)
  unfolding bytes_in
  bytes_in_preserves v = unchanged_preserves _ (λ w. refl)

  pub store_integer_preserves : (q : List Seg) (v : Value) → PreservesWhere (TakesValues q) relation (store_integer q v)
  unfolding store_integer integer_in
  store_integer_preserves q v = finding_preserves_where (λ n. TakesValues q) _ _ (λ w. refl) (λ w takes n is. takes) (λ n. where_then_preserves _ _ (value_put_preserves q (value.Integer n)) (λ put. give_preserves _))

  pub store_text_preserves : (o : ℕ) (v : Value) → Preserves relation (store_text o v)
  unfolding store_text
  store_text_preserves o v = then_preserves _ _ (text_in_preserves v) (λ bytes. then_preserves _ _ (on_objects_preserves _ (write_string_keeps_kinds o bytes)) (λ put. give_preserves _))

  pub store_bytes_preserves : (o : ℕ) (v : Value) → Preserves relation (store_bytes o v)
  unfolding store_bytes
  store_bytes_preserves o v = then_preserves _ _ (bytes_in_preserves v) (λ bytes. then_preserves _ _ (on_objects_preserves _ (write_buffer_keeps_kinds o bytes)) (λ put. give_preserves _))

  pub store_package_preserves : (q : List Seg) (v : Value) → PreservesWhere (TakesValues q) relation (store_package q v)
  store_package_preserves q (value.Package o) = copy_into_name_preserves q _
  store_package_preserves q value.Uninitialized = preserves_anywhere _ (stop_preserves _)
  store_package_preserves q (value.Integer n) = preserves_anywhere _ (stop_preserves _)
  store_package_preserves q (value.String o) = preserves_anywhere _ (stop_preserves _)
  store_package_preserves q (value.Buffer o) = preserves_anywhere _ (stop_preserves _)
  store_package_preserves q (value.Reference r) = preserves_anywhere _ (stop_preserves _)

  pub store_over_value_preserves : (old : Value) (q : List Seg) (v : Value) → PreservesWhere (TakesValues q) relation (store_over_value old q v)
  store_over_value_preserves (value.Integer n) q v = store_integer_preserves q v
  store_over_value_preserves (value.String o) q v = preserves_anywhere _ (store_text_preserves o v)
  store_over_value_preserves (value.Buffer o) q v = preserves_anywhere _ (store_bytes_preserves o v)
  store_over_value_preserves (value.Package o) q v = store_package_preserves q v
  store_over_value_preserves (value.Reference r) q v = copy_into_name_preserves q v
  store_over_value_preserves value.Uninitialized q v = copy_into_name_preserves q v

  pub store_over_preserves : (h : Holding) (q : List Seg) (v : Value) → PreservesWhere (HoldsThere h q) relation (store_over h q v)
  store_over_preserves (holding.Value old) q v = store_over_value_preserves old q v
  store_over_preserves (holding.Field f) q v = preserves_anywhere _ (give_preserves _)
  store_over_preserves holding.Nothing q v = preserves_anywhere _ (stop_preserves _)

  -- stores over what a name holds, and over what the declaration with a number holds
  pub over_name_preserves : (q : List Seg) (put : Holding → Change (State S) Stored) → ((h : Holding) → PreservesWhere (HoldsThere h q) relation (put h)) → Preserves relation (held_at q >>= put)
  unfolding held_at
  over_name_preserves q put each = finding_preserves (λ h. HoldsThere h q) _ _ (λ w. refl) (λ w h is. holding_there w q (get w.names.map q) h refl is) each

  pub over_declared_preserves : (n : ℕ) (put : List Seg → Holding → Change (State S) Stored) → ((q : List Seg) (h : Holding) → PreservesWhere (HoldsThere h q) relation (put q h)) → Preserves relation (declaration n >>= (λ e. put e.0 (holding_of e.1.object)))
  unfolding declaration
  over_declared_preserves n put each = finding_preserves (λ (e : List Seg × Entry). HoldsThere (holding_of e.1.object) e.0) _ _ (λ w. refl)
      (λ w e is. takes_values w e.0 e.1 e.1.object (numbered_stands w.names.map n e (declaration_found (numbered n w.names.map) e is)) refl) (λ e. each e.0 (holding_of e.1.object))

  pub byte_in_preserves : (v : Value) → Preserves relation (byte_in v)
  unfolding byte_in
  byte_in_preserves v = unchanged_preserves _ (λ w. refl)

  pub store_byte_preserves : (o i : ℕ) (v : Value) → Preserves relation (store_byte o i v)
  unfolding store_byte
  store_byte_preserves o i v = then_preserves _ _ (on_objects_preserves _ (byte_at_keeps_kinds o i)) (λ old. then_preserves _ _ (byte_in_preserves v) (λ b. then_preserves _ _ (on_objects_preserves _ (write_byte_keeps_kinds o i b)) (λ put. give_preserves _)))

  pub copy_into_declared_preserves : (n : ℕ) (v : Value) → Preserves relation (copy_into_declared n v)
  unfolding copy_into_declared
  copy_into_declared_preserves n v = over_declared_preserves n (λ q h. copy_over h q v) (λ q h. copy_over_preserves h q v)

  module _ (through : Reference → Value → Change (State S) Stored) (goes : (r : Reference) (v : Value) → Preserves relation (through r v)) where
    store_over_slot_preserves : (k : ℕ) (slot : Slot) (held v : Value) → Preserves relation (store_over_slot through k slot held v)
    store_over_slot_preserves k (Local i) held v = copy_into_slot_preserves k _ v
    store_over_slot_preserves k (Argument i) (value.Reference r) v = goes r v
    store_over_slot_preserves k (Argument i) value.Uninitialized v = copy_into_slot_preserves k _ v
    store_over_slot_preserves k (Argument i) (value.Integer n) v = copy_into_slot_preserves k _ v
    store_over_slot_preserves k (Argument i) (value.String o) v = copy_into_slot_preserves k _ v
    store_over_slot_preserves k (Argument i) (value.Buffer o) v = copy_into_slot_preserves k _ v
    store_over_slot_preserves k (Argument i) (value.Package o) v = copy_into_slot_preserves k _ v

    store_in_frame_preserves : (k : ℕ) (slot : Slot) (v : Value) → Preserves relation (store_in_frame through k slot v)
    unfolding store_in_frame
    store_in_frame_preserves k slot v = then_preserves _ _ (slot_held_preserves k slot) (λ held. store_over_slot_preserves k slot held v)

    store_in_frame_numbered_preserves : (n : ℕ) (slot : Slot) (v : Value) → Preserves relation (store_in_frame_numbered through n slot v)
    unfolding store_in_frame_numbered
    store_in_frame_numbered_preserves n slot v = then_preserves _ _ (frame_found_preserves n) (λ k. store_in_frame_preserves k slot v)

    store_at_reference_preserves : (r : Reference) (v : Value) → Preserves relation (store_at_reference through r v)
    store_at_reference_preserves (reference.Name n) v = copy_into_declared_preserves n v
    store_at_reference_preserves (reference.Slot slot n) v = store_in_frame_numbered_preserves n slot v
    store_at_reference_preserves (reference.Element o i) v = copy_into_element_preserves o i v
    store_at_reference_preserves (reference.Byte o i) v = store_byte_preserves o i v

  stored_through_preserves : (n : ℕ) (r : Reference) (v : Value) → Preserves relation (stored_through n r v)
  unfolding stored_through
  stored_through_preserves zero r v = stop_preserves _
  stored_through_preserves (suc n) r v = store_at_reference_preserves (stored_through n) (stored_through_preserves n) r v

  pub store_in_slot_preserves : (slot : Slot) (v : Value) → Preserves relation (store_in_slot slot v)
  unfolding store_in_slot
  store_in_slot_preserves slot v = then_preserves _ _ latest_frame_preserves (λ k. store_in_frame_preserves _ (stored_through_preserves _) k slot v)

  pub store_in_name_preserves : (q : List Seg) (v : Value) → Preserves relation (store_in_name q v)
  unfolding store_in_name
  store_in_name_preserves q v = over_name_preserves q (λ h. store_over h q v) (λ h. store_over_preserves h q v)

  pub store_to_preserves : (r : Reference) (v : Value) → Preserves relation (store_to r v)
  unfolding store_in_declared
  store_to_preserves (reference.Name n) v = over_declared_preserves n (λ q h. store_over h q v) (λ q h. store_over_preserves h q v)
  store_to_preserves (reference.Slot slot n) v = store_in_frame_numbered_preserves _ (stored_through_preserves _) n slot v
  store_to_preserves (reference.Element o i) v = copy_into_element_preserves o i v
  store_to_preserves (reference.Byte o i) v = store_byte_preserves o i v

  pub stored_preserves : (at : StoreTarget) (v : Value) → Preserves relation (stored at v)
  stored_preserves targets.Nowhere v = give_preserves _
  stored_preserves (targets.Slot slot) v = store_in_slot_preserves slot v
  stored_preserves (targets.Name q) v = store_in_name_preserves q v
  stored_preserves (targets.Refers r) v = store_to_preserves r v

  pub copy_in_name_preserves : (q : List Seg) (v : Value) → Preserves relation (copy_in_name q v)
  unfolding copy_in_name
  copy_in_name_preserves q v = over_name_preserves q (λ h. copy_over h q v) (λ h. copy_over_preserves h q v)

  pub copied_to_preserves : (at : StoreTarget) (v : Value) → Preserves relation (copied_to at v)
  copied_to_preserves targets.Nowhere v = give_preserves _
  copied_to_preserves (targets.Slot slot) v = store_in_slot_preserves slot v
  copied_to_preserves (targets.Name q) v = copy_in_name_preserves q v
  copied_to_preserves (targets.Refers r) v = stored_through_preserves _ r v

  -- ---- mutexes

  pub mutex_count_preserves : (q : List Seg) → Preserves relation (mutex_count q)
  unfolding mutex_count
  mutex_count_preserves q = unchanged_preserves _ (λ w. refl)

  -- another count of the mutex at a path
  count_put_preserves : (q : List Seg) (count : ℕ → Outcome ℕ) → Preserves relation (mutex_count q >>= (λ n. settle (count n) >>= (λ m. on_names (replaced q (object.Mutex m)))))
  unfolding mutex_count settle
  count_put_preserves q count = finding_preserves (λ n. TakesCounts q) _ _ (λ w. refl) (λ w n is. counts_there w q (get w.names.map q) n refl is)
      (λ n. finding_preserves_where (λ m. MayPut q (object.Mutex m)) _ _ (λ w. refl) (λ w takes m is. takes m) (λ m. replaced_preserves q (object.Mutex m)))

  pub acquired_preserves : (q : List Seg) → Preserves relation (acquired q)
  unfolding acquired
  acquired_preserves q = count_put_preserves q once_more

  acquired_by_preserves : (r : Reference) → Preserves relation (acquired_by r)
  unfolding acquired_by_number
  acquired_by_preserves (reference.Name n) = then_preserves _ _ (declaration_preserves n) (λ e. acquired_preserves e.0)
  acquired_by_preserves (reference.Slot slot n) = stop_preserves _
  acquired_by_preserves (reference.Element o i) = stop_preserves _
  acquired_by_preserves (reference.Byte o i) = stop_preserves _

  pub acquired_at_preserves : (at : StoreTarget) → Preserves relation (acquired_at at)
  acquired_at_preserves targets.Nowhere = stop_preserves _
  acquired_at_preserves (targets.Slot slot) = stop_preserves _
  acquired_at_preserves (targets.Name q) = acquired_preserves q
  acquired_at_preserves (targets.Refers r) = acquired_by_preserves r

  pub given_back_preserves : (q : List Seg) → Preserves relation (given_back q)
  unfolding given_back
  given_back_preserves q = count_put_preserves q once_less

  given_back_by_preserves : (r : Reference) → Preserves relation (given_back_by r)
  unfolding given_back_by_number
  given_back_by_preserves (reference.Name n) = then_preserves _ _ (declaration_preserves n) (λ e. given_back_preserves e.0)
  given_back_by_preserves (reference.Slot slot n) = stop_preserves _
  given_back_by_preserves (reference.Element o i) = stop_preserves _
  given_back_by_preserves (reference.Byte o i) = stop_preserves _

  pub given_back_at_preserves : (at : StoreTarget) → Preserves relation (given_back_at at)
  given_back_at_preserves targets.Nowhere = stop_preserves _
  given_back_at_preserves (targets.Slot slot) = stop_preserves _
  given_back_at_preserves (targets.Name q) = given_back_preserves q
  given_back_at_preserves (targets.Refers r) = given_back_by_preserves r
