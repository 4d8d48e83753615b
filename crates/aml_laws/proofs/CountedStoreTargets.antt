-- Reading, storing and acquiring at a target leave the counter, and do what they do without it.
use Rattle.std.specs.Prelude.{ℕ, zero, suc, List, refl}
use Rattle.ar_space.specs.Change.{Change}
use Rattle.aml_path.specs.declared.segment.Seg.{Seg}
use Rattle.aml_path.specs.Paths.{Name}
use Rattle.aml_objects.specs.declared.value.Value.{Value}
use Rattle.aml_objects.specs.declared.value.Value.TheVariants as value
use Rattle.aml_objects.specs.declared.value.Slot.{Slot}
use Rattle.aml_objects.specs.declared.value.Slot.TheVariants.{Local, Argument}
use Rattle.aml_objects.specs.declared.value.Reference.{Reference}
use Rattle.aml_objects.specs.declared.value.Reference.TheVariants as reference
use Rattle.aml_objects.specs.declared.object.Element.{Element}
use Rattle.aml_objects.specs.declared.object.Element.TheVariants as element
use Rattle.aml_objects.specs.declared.entry.NamedObject.{NamedObject}
use Rattle.aml_objects.specs.declared.entry.NamedObject.TheVariants as object
use Rattle.aml_world.specs.declared.values.store_target.StoreTarget.{StoreTarget}
use Rattle.aml_world.specs.declared.values.store_target.StoreTarget.TheVariants as targets
use Rattle.aml_world.specs.declared.values.store_target.Holding.{Holding}
use Rattle.aml_world.specs.declared.values.store_target.Holding.TheVariants as holding
use Rattle.aml_world.specs.declared.values.store_target.Stored.{Stored}
use Rattle.aml_world.specs.declared.values.object_type.Referent.{Referent}
use Rattle.aml_world.specs.declared.values.object_type.Referent.TheVariants as referent
use Rattle.aml_world.specs.state.State.{State}
use Rattle.aml_world.specs.state.Readings.{read_as}
use Rattle.aml_world.specs.values.StoreTargets.{held_at, latest_frame, frame_found, slot_held, own_slot, slot_read, name_read, held_in_slot, target_read, declaration, byte_followed, value_followed, referent_followed, declared_followed, slot_followed, element_named, name_followed, element_followed, held_followed, reference_followed, followed, slot_referent, declared_referent, name_referent, target_referent, name_tested, frame_tested, byte_tested, tested, declared_once, value_once, slot_once, name_once, element_once, held_once, byte_once, dereferenced, frame_number, slot_reference, declared_number, name_reference, reference_of, slot_initialized, element_initialized, if_initialized, reference_if_found, most_references}
use Rattle.aml_world.specs.values.Stores.{slot_put, copy_into_slot, copy_into_name, copy_into_element, copy_over, text_in, bytes_in, store_integer, store_text, store_bytes, store_package, store_over_value, store_over, byte_in, store_byte, copy_into_declared, store_over_slot, store_in_declared, store_to, store_in_frame, store_in_frame_numbered, store_at_reference, stored_through, store_in_slot, store_in_name, stored, copy_in_name, copied_to}
use Rattle.aml_world.specs.state.Mutexes.{mutex_count, acquired, given_back, acquired_by_number, given_back_by_number, acquired_by, given_back_by, acquired_at, given_back_at}
use Rattle.aml_laws.proofs.CountedChanges.{Counts, give_counts, stop_counts, settle_counts, then_counts, direct_counts, on_objects_counts, on_names_counts}
use Rattle.aml_laws.proofs.CountedOperations.{integer_in_counts, entry_found_counts}

module _ {S : Type 0} where
  -- ---- what stands there

  pub held_at_counts : (q : List Seg) → Counts {S = S} (held_at q) (held_at q)
  unfolding held_at
  held_at_counts q = direct_counts _ _ (λ w. refl) (λ w. refl)

  pub latest_frame_counts : Counts {S = S} (latest_frame) (latest_frame)
  unfolding latest_frame
  latest_frame_counts = direct_counts _ _ (λ w. refl) (λ w. refl)

  pub frame_found_counts : (n : ℕ) → Counts {S = S} (frame_found n) (frame_found n)
  unfolding frame_found
  frame_found_counts n = direct_counts _ _ (λ w. refl) (λ w. refl)

  pub slot_held_counts : (k : ℕ) (slot : Slot) → Counts {S = S} (slot_held k slot) (slot_held k slot)
  unfolding slot_held
  slot_held_counts k slot = direct_counts _ _ (λ w. refl) (λ w. refl)

  pub own_slot_counts : (slot : Slot) → Counts {S = S} (own_slot slot) (own_slot slot)
  unfolding own_slot
  own_slot_counts slot = then_counts _ _ _ _ latest_frame_counts (λ k. slot_held_counts k slot)

  pub slot_read_counts : (slot : Slot) → Counts {S = S} (slot_read slot) (slot_read slot)
  unfolding slot_read
  slot_read_counts slot = then_counts _ _ _ _ (own_slot_counts slot) (λ v. settle_counts _)

  pub name_read_counts : (q : List Seg) → Counts {S = S} (name_read q) (name_read q)
  unfolding name_read
  name_read_counts q = then_counts _ _ _ _ (held_at_counts q) (λ h. settle_counts _)

  pub held_in_slot_counts : (slot : Slot) → Counts {S = S} (held_in_slot slot) (held_in_slot slot)
  unfolding held_in_slot
  held_in_slot_counts slot = then_counts _ _ _ _ (slot_read_counts slot) (λ v. give_counts _)

  pub declaration_counts : (n : ℕ) → Counts {S = S} (declaration n) (declaration n)
  unfolding declaration
  declaration_counts n = direct_counts _ _ (λ w. refl) (λ w. refl)

  pub tested_counts : (r : Reference) → Counts {S = S} (tested r) (tested r)
  unfolding name_tested frame_tested byte_tested
  tested_counts (reference.Name n) = then_counts _ _ _ _ (declaration_counts n) (λ e. give_counts _)
  tested_counts (reference.Slot slot n) = then_counts _ _ _ _ (frame_found_counts n) (λ k. give_counts _)
  tested_counts (reference.Element o i) = on_objects_counts _
  tested_counts (reference.Byte o i) = then_counts _ _ _ _ (on_objects_counts _) (λ b. give_counts _)

  value_once_counts : (v : Value) → Counts {S = S} (value_once v) (value_once v)
  unfolding value_once
  value_once_counts v = then_counts _ _ _ _ (settle_counts _) (λ x. give_counts _)

  element_once_counts : (e : Element) → Counts {S = S} (element_once e) (element_once e)
  unfolding name_once
  element_once_counts (element.Value v) = value_once_counts v
  element_once_counts (element.Name n scope) = then_counts _ _ _ _ (entry_found_counts scope n) (λ e. give_counts _)

  pub dereferenced_counts : (r : Reference) → Counts {S = S} (dereferenced r) (dereferenced r)
  unfolding declared_once slot_once held_once byte_once
  dereferenced_counts (reference.Name n) = then_counts _ _ _ _ (declaration_counts n) (λ e. give_counts _)
  dereferenced_counts (reference.Slot slot n) = then_counts _ _ _ _ (frame_found_counts n) (λ k. then_counts _ _ _ _ (slot_held_counts k slot) (λ v. value_once_counts v))
  dereferenced_counts (reference.Element o i) = then_counts _ _ _ _ (on_objects_counts _) (λ e. element_once_counts e)
  dereferenced_counts (reference.Byte o i) = then_counts _ _ _ _ (on_objects_counts _) (λ b. give_counts _)

  pub target_read_counts : (at : StoreTarget) → Counts {S = S} (target_read at) (target_read at)
  target_read_counts targets.Nowhere = stop_counts _
  target_read_counts (targets.Slot slot) = held_in_slot_counts slot
  target_read_counts (targets.Name q) = name_read_counts q
  target_read_counts (targets.Refers r) = dereferenced_counts r

  frame_number_counts : (k : ℕ) → Counts {S = S} (frame_number k) (frame_number k)
  unfolding frame_number
  frame_number_counts k = direct_counts _ _ (λ w. refl) (λ w. refl)

  pub declared_number_counts : (q : List Seg) → Counts {S = S} (declared_number q) (declared_number q)
  unfolding declared_number
  declared_number_counts q = direct_counts _ _ (λ w. refl) (λ w. refl)

  pub reference_of_counts : (at : StoreTarget) → Counts {S = S} (reference_of at) (reference_of at)
  unfolding slot_reference name_reference
  reference_of_counts targets.Nowhere = stop_counts _
  reference_of_counts (targets.Slot slot) = then_counts _ _ _ _ latest_frame_counts (λ k. then_counts _ _ _ _ (frame_number_counts k) (λ n. give_counts _))
  reference_of_counts (targets.Name q) = then_counts _ _ _ _ (declared_number_counts q) (λ n. give_counts _)
  reference_of_counts (targets.Refers r) = give_counts _

  pub if_initialized_counts : (r : Reference) → Counts {S = S} (if_initialized r) (if_initialized r)
  unfolding slot_initialized element_initialized
  if_initialized_counts (reference.Name n) = give_counts _
  if_initialized_counts (reference.Slot slot n) = then_counts _ _ _ _ (frame_found_counts n) (λ k. then_counts _ _ _ _ (slot_held_counts k slot) (λ v. give_counts _))
  if_initialized_counts (reference.Element o i) = then_counts _ _ _ _ (on_objects_counts _) (λ e. give_counts _)
  if_initialized_counts (reference.Byte o i) = give_counts _

  pub reference_if_found_counts : (scope : List Seg) (n : Name) → Counts {S = S} (reference_if_found scope n) (reference_if_found scope n)
  unfolding reference_if_found
  reference_if_found_counts scope n = direct_counts _ _ (λ w. refl) (λ w. refl)

  pub byte_followed_counts : (o i : ℕ) → Counts {S = S} (byte_followed o i) (byte_followed o i)
  unfolding byte_followed
  byte_followed_counts o i = then_counts _ _ _ _ (on_objects_counts _) (λ b. give_counts _)

  module _ (follow : Reference → Change (State (S × ℕ)) Referent) (uncounted : Reference → Change (State S) Referent) (follows : (r : Reference) → Counts (follow r) (uncounted r)) where
    value_followed_counts : (v : Value) → Counts {S = S} (value_followed follow v) (value_followed uncounted v)
    value_followed_counts value.Uninitialized = give_counts _
    value_followed_counts (value.Integer n) = give_counts _
    value_followed_counts (value.String o) = give_counts _
    value_followed_counts (value.Buffer o) = give_counts _
    value_followed_counts (value.Package o) = give_counts _
    value_followed_counts (value.Reference r) = follows r

    referent_followed_counts : (r : Referent) → Counts {S = S} (referent_followed follow r) (referent_followed uncounted r)
    referent_followed_counts (referent.Value v) = value_followed_counts v
    referent_followed_counts (referent.Object t) = give_counts _
    referent_followed_counts (referent.Field u) = give_counts _
    referent_followed_counts (referent.Bytes n) = give_counts _

    declared_followed_counts : (n : ℕ) → Counts {S = S} (declared_followed follow n) (declared_followed uncounted n)
    unfolding declared_followed
    declared_followed_counts n = then_counts _ _ _ _ (declaration_counts n) (λ e. referent_followed_counts _)

    slot_followed_counts : (n : ℕ) (slot : Slot) → Counts {S = S} (slot_followed follow n slot) (slot_followed uncounted n slot)
    unfolding slot_followed
    slot_followed_counts n slot = then_counts _ _ _ _ (frame_found_counts n) (λ k. then_counts _ _ _ _ (slot_held_counts k slot) (λ v. value_followed_counts v))

    element_named_counts : (n : ℕ) (o : NamedObject) → Counts {S = S} (element_named follow n o) (element_named uncounted n o)
    element_named_counts n (object.Data v) = value_followed_counts (read_as n v)
    element_named_counts n (object.FieldUnit u) = give_counts _
    element_named_counts n object.Scope = follows (reference.Name n)
    element_named_counts n object.Device = follows (reference.Name n)
    element_named_counts n object.Processor = follows (reference.Name n)
    element_named_counts n object.PowerResource = follows (reference.Name n)
    element_named_counts n object.ThermalZone = follows (reference.Name n)
    element_named_counts n (object.Method m) = follows (reference.Name n)
    element_named_counts n (object.OperationRegion r) = follows (reference.Name n)
    element_named_counts n (object.BufferField b) = give_counts _
    element_named_counts n (object.Mutex c) = follows (reference.Name n)
    element_named_counts n (object.Event c) = follows (reference.Name n)
    element_named_counts n (object.Alias q) = follows (reference.Name n)

    name_followed_counts : (n : Name) (scope : List Seg) → Counts {S = S} (name_followed follow n scope) (name_followed uncounted n scope)
    unfolding name_followed
    name_followed_counts n scope = then_counts _ _ _ _ (entry_found_counts scope n) (λ e. element_named_counts e.number e.object)

    element_followed_counts : (e : Element) → Counts {S = S} (element_followed follow e) (element_followed uncounted e)
    element_followed_counts (element.Value v) = value_followed_counts v
    element_followed_counts (element.Name n scope) = name_followed_counts n scope

    held_followed_counts : (o i : ℕ) → Counts {S = S} (held_followed follow o i) (held_followed uncounted o i)
    unfolding held_followed
    held_followed_counts o i = then_counts _ _ _ _ (on_objects_counts _) (λ e. element_followed_counts e)

    reference_followed_counts : (r : Reference) → Counts {S = S} (reference_followed follow r) (reference_followed uncounted r)
    reference_followed_counts (reference.Name n) = declared_followed_counts n
    reference_followed_counts (reference.Slot slot n) = slot_followed_counts n slot
    reference_followed_counts (reference.Element o i) = held_followed_counts o i
    reference_followed_counts (reference.Byte o i) = byte_followed_counts o i

  followed_counts : (n : ℕ) (r : Reference) → Counts {S = S} (followed n r) (followed n r)
  unfolding followed
  followed_counts zero r = stop_counts _
  followed_counts (suc n) r = reference_followed_counts (followed n) (followed n) (followed_counts n) r

  pub slot_referent_counts : (slot : Slot) → Counts {S = S} (slot_referent slot) (slot_referent slot)
  unfolding slot_referent
  slot_referent_counts slot = then_counts _ _ _ _ (own_slot_counts slot) (λ v. value_followed_counts _ _ (followed_counts _) v)

  pub declared_referent_counts : (q : List Seg) → Counts {S = S} (declared_referent q) (declared_referent q)
  unfolding declared_referent
  declared_referent_counts q = direct_counts _ _ (λ w. refl) (λ w. refl)

  pub name_referent_counts : (q : List Seg) → Counts {S = S} (name_referent q) (name_referent q)
  unfolding name_referent
  name_referent_counts q = then_counts _ _ _ _ (declared_referent_counts q) (λ r. referent_followed_counts _ _ (followed_counts _) r)

  pub target_referent_counts : (at : StoreTarget) → Counts {S = S} (target_referent at) (target_referent at)
  target_referent_counts targets.Nowhere = give_counts _
  target_referent_counts (targets.Slot slot) = slot_referent_counts slot
  target_referent_counts (targets.Name q) = name_referent_counts q
  target_referent_counts (targets.Refers r) = followed_counts _ r

  pub value_referent_counts : (v : Value) → Counts {S = S} (value_followed (followed most_references) v) (value_followed (followed most_references) v)
  value_referent_counts v = value_followed_counts _ _ (followed_counts _) v

  -- ---- stores

  pub slot_put_counts : (k : ℕ) (slot : Slot) (v : Value) → Counts {S = S} (slot_put k slot v) (slot_put k slot v)
  unfolding slot_put
  slot_put_counts k slot v = direct_counts _ _ (λ w. refl) (λ w. refl)

  pub copy_into_slot_counts : (k : ℕ) (slot : Slot) (v : Value) → Counts {S = S} (copy_into_slot k slot v) (copy_into_slot k slot v)
  unfolding copy_into_slot
  copy_into_slot_counts k slot v = then_counts _ _ _ _ (on_objects_counts _) (λ c. then_counts _ _ _ _ (slot_put_counts k slot c) (λ put. give_counts _))

  pub copy_into_name_counts : (q : List Seg) (v : Value) → Counts {S = S} (copy_into_name q v) (copy_into_name q v)
  unfolding copy_into_name
  copy_into_name_counts q v = then_counts _ _ _ _ (on_objects_counts _) (λ c. then_counts _ _ _ _ (on_names_counts _) (λ put. give_counts _))

  pub copy_into_element_counts : (o i : ℕ) (v : Value) → Counts {S = S} (copy_into_element o i v) (copy_into_element o i v)
  unfolding copy_into_element
  copy_into_element_counts o i v = then_counts _ _ _ _ (on_objects_counts _) (λ there. then_counts _ _ _ _ (on_objects_counts _) (λ c. then_counts _ _ _ _ (on_objects_counts _) (λ put. give_counts _)))

  pub copy_over_counts : (h : Holding) (q : List Seg) (v : Value) → Counts {S = S} (copy_over h q v) (copy_over h q v)
  copy_over_counts (holding.Value old) q v = copy_into_name_counts q v
  copy_over_counts (holding.Field f) q v = give_counts _
  copy_over_counts holding.Nothing q v = stop_counts _

  pub text_in_counts : (v : Value) → Counts {S = S} (text_in v) (text_in v)
  unfolding text_in
  text_in_counts v = direct_counts _ _ (λ w. refl) (λ w. refl)

  pub bytes_in_counts : (v : Value) → Counts {S = S} (bytes_in v) (bytes_in v)
  unfolding bytes_in
  bytes_in_counts v = direct_counts _ _ (λ w. refl) (λ w. refl)

  pub store_integer_counts : (q : List Seg) (v : Value) → Counts {S = S} (store_integer q v) (store_integer q v)
  unfolding store_integer
  store_integer_counts q v = then_counts _ _ _ _ (integer_in_counts v) (λ n. then_counts _ _ _ _ (on_names_counts _) (λ put. give_counts _))

  pub store_text_counts : (o : ℕ) (v : Value) → Counts {S = S} (store_text o v) (store_text o v)
  unfolding store_text
  store_text_counts o v = then_counts _ _ _ _ (text_in_counts v) (λ bytes. then_counts _ _ _ _ (on_objects_counts _) (λ put. give_counts _))

  pub store_bytes_counts : (o : ℕ) (v : Value) → Counts {S = S} (store_bytes o v) (store_bytes o v)
  unfolding store_bytes
  store_bytes_counts o v = then_counts _ _ _ _ (bytes_in_counts v) (λ bytes. then_counts _ _ _ _ (on_objects_counts _) (λ put. give_counts _))

  pub store_package_counts : (q : List Seg) (v : Value) → Counts {S = S} (store_package q v) (store_package q v)
  store_package_counts q (value.Package o) = copy_into_name_counts q _
  store_package_counts q value.Uninitialized = stop_counts _
  store_package_counts q (value.Integer n) = stop_counts _
  store_package_counts q (value.String o) = stop_counts _
  store_package_counts q (value.Buffer o) = stop_counts _
  store_package_counts q (value.Reference r) = stop_counts _

  pub store_over_value_counts : (old : Value) (q : List Seg) (v : Value) → Counts {S = S} (store_over_value old q v) (store_over_value old q v)
  store_over_value_counts (value.Integer n) q v = store_integer_counts q v
  store_over_value_counts (value.String o) q v = store_text_counts o v
  store_over_value_counts (value.Buffer o) q v = store_bytes_counts o v
  store_over_value_counts (value.Package o) q v = store_package_counts q v
  store_over_value_counts (value.Reference r) q v = copy_into_name_counts q v
  store_over_value_counts value.Uninitialized q v = copy_into_name_counts q v

  pub store_over_counts : (h : Holding) (q : List Seg) (v : Value) → Counts {S = S} (store_over h q v) (store_over h q v)
  store_over_counts (holding.Value old) q v = store_over_value_counts old q v
  store_over_counts (holding.Field f) q v = give_counts _
  store_over_counts holding.Nothing q v = stop_counts _

  pub byte_in_counts : (v : Value) → Counts {S = S} (byte_in v) (byte_in v)
  unfolding byte_in
  byte_in_counts v = direct_counts _ _ (λ w. refl) (λ w. refl)

  pub store_byte_counts : (o i : ℕ) (v : Value) → Counts {S = S} (store_byte o i v) (store_byte o i v)
  unfolding store_byte
  store_byte_counts o i v = then_counts _ _ _ _ (on_objects_counts _) (λ old. then_counts _ _ _ _ (byte_in_counts v) (λ b. then_counts _ _ _ _ (on_objects_counts _) (λ put. give_counts _)))

  pub copy_into_declared_counts : (n : ℕ) (v : Value) → Counts {S = S} (copy_into_declared n v) (copy_into_declared n v)
  unfolding copy_into_declared
  copy_into_declared_counts n v = then_counts _ _ _ _ (declaration_counts n) (λ e. copy_over_counts _ e.0 v)

  module _ (through : Reference → Value → Change (State (S × ℕ)) Stored) (uncounted : Reference → Value → Change (State S) Stored) (stores : (r : Reference) (v : Value) → Counts (through r v) (uncounted r v)) where
    store_over_slot_counts : (k : ℕ) (slot : Slot) (held v : Value) → Counts {S = S} (store_over_slot through k slot held v) (store_over_slot uncounted k slot held v)
    store_over_slot_counts k (Local i) held v = copy_into_slot_counts k _ v
    store_over_slot_counts k (Argument i) (value.Reference r) v = stores r v
    store_over_slot_counts k (Argument i) value.Uninitialized v = copy_into_slot_counts k _ v
    store_over_slot_counts k (Argument i) (value.Integer n) v = copy_into_slot_counts k _ v
    store_over_slot_counts k (Argument i) (value.String o) v = copy_into_slot_counts k _ v
    store_over_slot_counts k (Argument i) (value.Buffer o) v = copy_into_slot_counts k _ v
    store_over_slot_counts k (Argument i) (value.Package o) v = copy_into_slot_counts k _ v

    store_in_frame_counts : (k : ℕ) (slot : Slot) (v : Value) → Counts {S = S} (store_in_frame through k slot v) (store_in_frame uncounted k slot v)
    unfolding store_in_frame
    store_in_frame_counts k slot v = then_counts _ _ _ _ (slot_held_counts k slot) (λ held. store_over_slot_counts k slot held v)

    store_in_frame_numbered_counts : (n : ℕ) (slot : Slot) (v : Value) → Counts {S = S} (store_in_frame_numbered through n slot v) (store_in_frame_numbered uncounted n slot v)
    unfolding store_in_frame_numbered
    store_in_frame_numbered_counts n slot v = then_counts _ _ _ _ (frame_found_counts n) (λ k. store_in_frame_counts k slot v)

    store_at_reference_counts : (r : Reference) (v : Value) → Counts {S = S} (store_at_reference through r v) (store_at_reference uncounted r v)
    store_at_reference_counts (reference.Name n) v = copy_into_declared_counts n v
    store_at_reference_counts (reference.Slot slot n) v = store_in_frame_numbered_counts n slot v
    store_at_reference_counts (reference.Element o i) v = copy_into_element_counts o i v
    store_at_reference_counts (reference.Byte o i) v = store_byte_counts o i v

  stored_through_counts : (n : ℕ) (r : Reference) (v : Value) → Counts {S = S} (stored_through n r v) (stored_through n r v)
  unfolding stored_through
  stored_through_counts zero r v = stop_counts _
  stored_through_counts (suc n) r v = store_at_reference_counts (stored_through n) (stored_through n) (stored_through_counts n) r v

  pub store_in_slot_counts : (slot : Slot) (v : Value) → Counts {S = S} (store_in_slot slot v) (store_in_slot slot v)
  unfolding store_in_slot
  store_in_slot_counts slot v = then_counts _ _ _ _ latest_frame_counts (λ k. store_in_frame_counts _ _ (stored_through_counts _) k slot v)

  pub store_in_name_counts : (q : List Seg) (v : Value) → Counts {S = S} (store_in_name q v) (store_in_name q v)
  unfolding store_in_name
  store_in_name_counts q v = then_counts _ _ _ _ (held_at_counts q) (λ h. store_over_counts h q v)

  pub store_to_counts : (r : Reference) (v : Value) → Counts {S = S} (store_to r v) (store_to r v)
  unfolding store_in_declared
  store_to_counts (reference.Name n) v = then_counts _ _ _ _ (declaration_counts n) (λ e. store_over_counts _ e.0 v)
  store_to_counts (reference.Slot slot n) v = store_in_frame_numbered_counts _ _ (stored_through_counts _) n slot v
  store_to_counts (reference.Element o i) v = copy_into_element_counts o i v
  store_to_counts (reference.Byte o i) v = store_byte_counts o i v

  pub stored_counts : (at : StoreTarget) (v : Value) → Counts {S = S} (stored at v) (stored at v)
  stored_counts targets.Nowhere v = give_counts _
  stored_counts (targets.Slot slot) v = store_in_slot_counts slot v
  stored_counts (targets.Name q) v = store_in_name_counts q v
  stored_counts (targets.Refers r) v = store_to_counts r v

  pub copy_in_name_counts : (q : List Seg) (v : Value) → Counts {S = S} (copy_in_name q v) (copy_in_name q v)
  unfolding copy_in_name
  copy_in_name_counts q v = then_counts _ _ _ _ (held_at_counts q) (λ h. copy_over_counts h q v)

  pub copied_to_counts : (at : StoreTarget) (v : Value) → Counts {S = S} (copied_to at v) (copied_to at v)
  copied_to_counts targets.Nowhere v = give_counts _
  copied_to_counts (targets.Slot slot) v = store_in_slot_counts slot v
  copied_to_counts (targets.Name q) v = copy_in_name_counts q v
  copied_to_counts (targets.Refers r) v = stored_through_counts _ r v

  -- ---- mutexes

  pub mutex_count_counts : (q : List Seg) → Counts {S = S} (mutex_count q) (mutex_count q)
  unfolding mutex_count
  mutex_count_counts q = direct_counts _ _ (λ w. refl) (λ w. refl)

  pub acquired_counts : (q : List Seg) → Counts {S = S} (acquired q) (acquired q)
  unfolding acquired
  acquired_counts q = then_counts _ _ _ _ (mutex_count_counts q) (λ n. then_counts _ _ _ _ (settle_counts _) (λ m. on_names_counts _))

  acquired_by_counts : (r : Reference) → Counts {S = S} (acquired_by r) (acquired_by r)
  unfolding acquired_by_number
  acquired_by_counts (reference.Name n) = then_counts _ _ _ _ (declaration_counts n) (λ e. acquired_counts e.0)
  acquired_by_counts (reference.Slot slot n) = stop_counts _
  acquired_by_counts (reference.Element o i) = stop_counts _
  acquired_by_counts (reference.Byte o i) = stop_counts _

  pub acquired_at_counts : (at : StoreTarget) → Counts {S = S} (acquired_at at) (acquired_at at)
  acquired_at_counts targets.Nowhere = stop_counts _
  acquired_at_counts (targets.Slot slot) = stop_counts _
  acquired_at_counts (targets.Name q) = acquired_counts q
  acquired_at_counts (targets.Refers r) = acquired_by_counts r

  pub given_back_counts : (q : List Seg) → Counts {S = S} (given_back q) (given_back q)
  unfolding given_back
  given_back_counts q = then_counts _ _ _ _ (mutex_count_counts q) (λ n. then_counts _ _ _ _ (settle_counts _) (λ m. on_names_counts _))

  given_back_by_counts : (r : Reference) → Counts {S = S} (given_back_by r) (given_back_by r)
  unfolding given_back_by_number
  given_back_by_counts (reference.Name n) = then_counts _ _ _ _ (declaration_counts n) (λ e. given_back_counts e.0)
  given_back_by_counts (reference.Slot slot n) = stop_counts _
  given_back_by_counts (reference.Element o i) = stop_counts _
  given_back_by_counts (reference.Byte o i) = stop_counts _

  pub given_back_at_counts : (at : StoreTarget) → Counts {S = S} (given_back_at at) (given_back_at at)
  given_back_at_counts targets.Nowhere = stop_counts _
  given_back_at_counts (targets.Slot slot) = stop_counts _
  given_back_at_counts (targets.Name q) = given_back_counts q
  given_back_at_counts (targets.Refers r) = given_back_by_counts r
