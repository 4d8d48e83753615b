-- Reading, storing and acquiring at a target make no access, and answer with no fault of the register space.
use Rattle.std.specs.FinMap.{get}
use Rattle.std.specs.Prelude.{List, Some, length, refl, slice_get, suc, zero, ℕ}
use Rattle.ar_space.specs.Accesses.{Accesses}
use Rattle.ar_space.specs.Change.{Change}
use Rattle.ar_space.specs.Outcome.{seen}
use Rattle.aml_path.specs.Paths.{Name}
use Rattle.aml_path.specs.declared.segment.Seg.{Seg}
use Rattle.aml_objects.specs.Contents.{content_in}
use Rattle.aml_objects.specs.declared.entry.NamedObject.TheVariants as object
use Rattle.aml_objects.specs.declared.entry.NamedObject.{NamedObject}
use Rattle.aml_objects.specs.declared.object.Element.TheVariants as element
use Rattle.aml_objects.specs.declared.object.Element.{Element}
use Rattle.aml_objects.specs.declared.value.Reference.TheVariants as reference
use Rattle.aml_objects.specs.declared.value.Reference.{Reference}
use Rattle.aml_objects.specs.declared.value.Slot.TheVariants.{Argument, Local}
use Rattle.aml_objects.specs.declared.value.Slot.{Slot}
use Rattle.aml_objects.specs.declared.value.Value.TheVariants as value
use Rattle.aml_objects.specs.declared.value.Value.{Value}
use Rattle.aml_namespace.specs.Namespace.{numbered}
use Rattle.aml_namespace.specs.Search.{found}
use Rattle.aml_world.specs.state.Mutexes.{acquired, acquired_at, acquired_by, acquired_by_number, given_back, given_back_at, given_back_by, given_back_by_number, mutex_count}
use Rattle.aml_world.specs.state.Readings.{read_as}
use Rattle.aml_world.specs.state.Slots.{frame_index}
use Rattle.aml_world.specs.state.State.{State}
use Rattle.aml_world.specs.values.StoreTargets.{byte_followed, byte_once, byte_tested, declaration, declared_followed, declared_number, declared_once, declared_referent, dereferenced, element_followed, element_initialized, element_named, element_once, followed, frame_found, frame_number, frame_tested, held_at, held_followed, held_in_slot, held_once, if_initialized, last_index, latest_frame, most_references, name_followed, name_once, name_read, name_reference, name_referent, name_tested, own_slot, reference_followed, reference_if_found, reference_of, referent_followed, slot_followed, slot_held, slot_initialized, slot_once, slot_read, slot_reference, slot_referent, target_read, target_referent, tested, value_followed, value_once}
use Rattle.aml_world.specs.values.Stores.{byte_in, bytes_in, copied_to, copy_in_name, copy_into_declared, copy_into_element, copy_into_name, copy_into_slot, copy_over, slot_put, store_at_reference, store_byte, store_bytes, store_in_declared, store_in_frame, store_in_frame_numbered, store_in_name, store_in_slot, store_integer, store_over, store_over_slot, store_over_value, store_package, store_text, store_to, stored, stored_through, text_in}
use Rattle.aml_world.specs.declared.values.object_type.Referent.TheVariants as referent
use Rattle.aml_world.specs.declared.values.object_type.Referent.{Referent}
use Rattle.aml_world.specs.declared.values.store_target.Holding.TheVariants as holding
use Rattle.aml_world.specs.declared.values.store_target.Holding.{Holding}
use Rattle.aml_world.specs.declared.values.store_target.StoreTarget.TheVariants as targets
use Rattle.aml_world.specs.declared.values.store_target.StoreTarget.{StoreTarget}
use Rattle.aml_world.specs.declared.values.store_target.Stored.{Stored}
use Rattle.aml_laws.proofs.CleanNames.{found_clean, replaced_clean}
use Rattle.aml_laws.proofs.CleanObjects.{byte_at_clean, copied_clean, element_at_clean, element_there_clean, write_buffer_clean, write_byte_clean, write_element_clean, write_string_clean}
use Rattle.aml_laws.proofs.CleanOutcomes.{seen_clean}
use Rattle.aml_laws.proofs.CleanValues.{to_buffer_of_clean, to_text_of_clean}
use Rattle.aml_laws.proofs.CleanWorlds.{byte_of_clean, count_in_clean, held_in_clean, holding_in_clean, initialized_clean, number_in_entry_clean, number_in_frame_clean, once_less_clean, once_more_clean, or_ended_clean, or_gone_clean, referent_in_clean, slot_at_clean, where_found_clean}
use Rattle.aml_laws.proofs.FaultsOfChanges.{WorldExplains, direct_explains, give_explains, on_names_explains, on_objects_explains, settle_explains, stop_explains, then_explains}
use Rattle.aml_laws.proofs.FaultsOfOperations.{entry_found_explains, integer_in_explains}

module _ {S : Type 0} {accesses : Accesses S} where
  -- ---- what stands there

  pub held_at_explains : (q : List Seg) → WorldExplains accesses (held_at q)
  unfolding held_at
  held_at_explains q = direct_explains _ (λ w. holding_in_clean (get w.names.map q)) (λ w. refl)

  pub latest_frame_explains : WorldExplains accesses (latest_frame)
  unfolding latest_frame
  latest_frame_explains = direct_explains _ (λ w. or_ended_clean (last_index (length w.frames))) (λ w. refl)

  pub frame_found_explains : (n : ℕ) → WorldExplains accesses (frame_found n)
  unfolding frame_found
  frame_found_explains n = direct_explains _ (λ w. or_ended_clean (frame_index n w.frames)) (λ w. refl)

  pub slot_held_explains : (k : ℕ) (slot : Slot) → WorldExplains accesses (slot_held k slot)
  unfolding slot_held
  slot_held_explains k slot = direct_explains _ (λ w. slot_at_clean slot w.frames (Some k)) (λ w. refl)

  pub own_slot_explains : (slot : Slot) → WorldExplains accesses (own_slot slot)
  unfolding own_slot
  own_slot_explains slot = then_explains _ _ latest_frame_explains (λ k. slot_held_explains k slot)

  pub slot_read_explains : (slot : Slot) → WorldExplains accesses (slot_read slot)
  unfolding slot_read
  slot_read_explains slot = then_explains _ _ (own_slot_explains slot) (λ v. settle_explains _ (initialized_clean _))

  pub name_read_explains : (q : List Seg) → WorldExplains accesses (name_read q)
  unfolding name_read
  name_read_explains q = then_explains _ _ (held_at_explains q) (λ h. settle_explains _ (held_in_clean _))

  pub held_in_slot_explains : (slot : Slot) → WorldExplains accesses (held_in_slot slot)
  unfolding held_in_slot
  held_in_slot_explains slot = then_explains _ _ (slot_read_explains slot) (λ v. give_explains _)

  pub declaration_explains : (n : ℕ) → WorldExplains accesses (declaration n)
  unfolding declaration
  declaration_explains n = direct_explains _ (λ w. or_gone_clean (numbered n w.names.map)) (λ w. refl)

  pub tested_explains : (r : Reference) → WorldExplains accesses (tested r)
  unfolding name_tested frame_tested byte_tested
  tested_explains (reference.Name n) = then_explains _ _ (declaration_explains n) (λ e. give_explains _)
  tested_explains (reference.Slot slot n) = then_explains _ _ (frame_found_explains n) (λ k. give_explains _)
  tested_explains (reference.Element o i) = on_objects_explains _ (element_there_clean _ _)
  tested_explains (reference.Byte o i) = then_explains _ _ (on_objects_explains _ (byte_at_clean _ _)) (λ b. give_explains _)

  value_once_explains : (v : Value) → WorldExplains accesses (value_once v)
  unfolding value_once
  value_once_explains v = then_explains _ _ (settle_explains _ (initialized_clean _)) (λ x. give_explains _)

  element_once_explains : (e : Element) → WorldExplains accesses (element_once e)
  unfolding name_once
  element_once_explains (element.Value v) = value_once_explains v
  element_once_explains (element.Name n scope) = then_explains _ _ (entry_found_explains scope n) (λ e. give_explains _)

  pub dereferenced_explains : (r : Reference) → WorldExplains accesses (dereferenced r)
  unfolding declared_once slot_once held_once byte_once
  dereferenced_explains (reference.Name n) = then_explains _ _ (declaration_explains n) (λ e. give_explains _)
  dereferenced_explains (reference.Slot slot n) = then_explains _ _ (frame_found_explains n) (λ k. then_explains _ _ (slot_held_explains k slot) (λ v. value_once_explains v))
  dereferenced_explains (reference.Element o i) = then_explains _ _ (on_objects_explains _ (element_at_clean _ _)) (λ e. element_once_explains e)
  dereferenced_explains (reference.Byte o i) = then_explains _ _ (on_objects_explains _ (byte_at_clean _ _)) (λ b. give_explains _)

  pub target_read_explains : (at : StoreTarget) → WorldExplains accesses (target_read at)
  target_read_explains targets.Nowhere = stop_explains _ tt
  target_read_explains (targets.Slot slot) = held_in_slot_explains slot
  target_read_explains (targets.Name q) = name_read_explains q
  target_read_explains (targets.Refers r) = dereferenced_explains r

  frame_number_explains : (k : ℕ) → WorldExplains accesses (frame_number k)
  unfolding frame_number
  frame_number_explains k = direct_explains _ (λ w. number_in_frame_clean (slice_get w.frames k)) (λ w. refl)

  pub declared_number_explains : (q : List Seg) → WorldExplains accesses (declared_number q)
  unfolding declared_number
  declared_number_explains q = direct_explains _ (λ w. number_in_entry_clean (get w.names.map q)) (λ w. refl)

  pub reference_of_explains : (at : StoreTarget) → WorldExplains accesses (reference_of at)
  unfolding slot_reference name_reference
  reference_of_explains targets.Nowhere = stop_explains _ tt
  reference_of_explains (targets.Slot slot) = then_explains _ _ latest_frame_explains (λ k. then_explains _ _ (frame_number_explains k) (λ n. give_explains _))
  reference_of_explains (targets.Name q) = then_explains _ _ (declared_number_explains q) (λ n. give_explains _)
  reference_of_explains (targets.Refers r) = give_explains _

  pub if_initialized_explains : (r : Reference) → WorldExplains accesses (if_initialized r)
  unfolding slot_initialized element_initialized
  if_initialized_explains (reference.Name n) = give_explains _
  if_initialized_explains (reference.Slot slot n) = then_explains _ _ (frame_found_explains n) (λ k. then_explains _ _ (slot_held_explains k slot) (λ v. give_explains _))
  if_initialized_explains (reference.Element o i) = then_explains _ _ (on_objects_explains _ (element_at_clean _ _)) (λ e. give_explains _)
  if_initialized_explains (reference.Byte o i) = give_explains _

  pub reference_if_found_explains : (scope : List Seg) (n : Name) → WorldExplains accesses (reference_if_found scope n)
  unfolding reference_if_found
  reference_if_found_explains scope n = direct_explains _ (λ w. where_found_clean (seen (λ f. f.1) (found w.names.map scope n)) (seen_clean (λ f. f.1) (found w.names.map scope n) (found_clean w.names.map scope n))) (λ w. refl)

  pub byte_followed_explains : (o i : ℕ) → WorldExplains accesses (byte_followed o i)
  unfolding byte_followed
  byte_followed_explains o i = then_explains _ _ (on_objects_explains _ (byte_at_clean _ _)) (λ b. give_explains _)

  module _ (follow : Reference → Change (State S) Referent) (follows : (r : Reference) → WorldExplains accesses (follow r)) where
    value_followed_explains : (v : Value) → WorldExplains accesses (value_followed follow v)
    value_followed_explains value.Uninitialized = give_explains _
    value_followed_explains (value.Integer n) = give_explains _
    value_followed_explains (value.String o) = give_explains _
    value_followed_explains (value.Buffer o) = give_explains _
    value_followed_explains (value.Package o) = give_explains _
    value_followed_explains (value.Reference r) = follows r

    referent_followed_explains : (r : Referent) → WorldExplains accesses (referent_followed follow r)
    referent_followed_explains (referent.Value v) = value_followed_explains v
    referent_followed_explains (referent.Object t) = give_explains _
    referent_followed_explains (referent.Field u) = give_explains _
    referent_followed_explains (referent.Bytes n) = give_explains _

    declared_followed_explains : (n : ℕ) → WorldExplains accesses (declared_followed follow n)
    unfolding declared_followed
    declared_followed_explains n = then_explains _ _ (declaration_explains n) (λ e. referent_followed_explains _)

    slot_followed_explains : (n : ℕ) (slot : Slot) → WorldExplains accesses (slot_followed follow n slot)
    unfolding slot_followed
    slot_followed_explains n slot = then_explains _ _ (frame_found_explains n) (λ k. then_explains _ _ (slot_held_explains k slot) (λ v. value_followed_explains v))

    element_named_explains : (n : ℕ) (o : NamedObject) → WorldExplains accesses (element_named follow n o)
    element_named_explains n (object.Data v) = value_followed_explains (read_as n v)
    element_named_explains n (object.FieldUnit u) = give_explains _
    element_named_explains n object.Scope = follows (reference.Name n)
    element_named_explains n object.Device = follows (reference.Name n)
    element_named_explains n object.Processor = follows (reference.Name n)
    element_named_explains n object.PowerResource = follows (reference.Name n)
    element_named_explains n object.ThermalZone = follows (reference.Name n)
    element_named_explains n (object.Method m) = follows (reference.Name n)
    element_named_explains n (object.OperationRegion r) = follows (reference.Name n)
    element_named_explains n (object.BufferField b) = give_explains _
    element_named_explains n (object.Mutex c) = follows (reference.Name n)
    element_named_explains n (object.Event c) = follows (reference.Name n)
    element_named_explains n (object.Alias q) = follows (reference.Name n)

    name_followed_explains : (n : Name) (scope : List Seg) → WorldExplains accesses (name_followed follow n scope)
    unfolding name_followed
    name_followed_explains n scope = then_explains _ _ (entry_found_explains scope n) (λ e. element_named_explains e.number e.object)

    element_followed_explains : (e : Element) → WorldExplains accesses (element_followed follow e)
    element_followed_explains (element.Value v) = value_followed_explains v
    element_followed_explains (element.Name n scope) = name_followed_explains n scope

    held_followed_explains : (o i : ℕ) → WorldExplains accesses (held_followed follow o i)
    unfolding held_followed
    held_followed_explains o i = then_explains _ _ (on_objects_explains _ (element_at_clean _ _)) (λ e. element_followed_explains e)

    reference_followed_explains : (r : Reference) → WorldExplains accesses (reference_followed follow r)
    reference_followed_explains (reference.Name n) = declared_followed_explains n
    reference_followed_explains (reference.Slot slot n) = slot_followed_explains n slot
    reference_followed_explains (reference.Element o i) = held_followed_explains o i
    reference_followed_explains (reference.Byte o i) = byte_followed_explains o i

  followed_explains : (n : ℕ) (r : Reference) → WorldExplains accesses (followed n r)
  unfolding followed
  followed_explains zero r = stop_explains _ tt
  followed_explains (suc n) r = reference_followed_explains (followed n) (followed_explains n) r

  pub slot_referent_explains : (slot : Slot) → WorldExplains accesses (slot_referent slot)
  unfolding slot_referent
  slot_referent_explains slot = then_explains _ _ (own_slot_explains slot) (λ v. value_followed_explains _ (followed_explains _) v)

  pub declared_referent_explains : (q : List Seg) → WorldExplains accesses (declared_referent q)
  unfolding declared_referent
  declared_referent_explains q = direct_explains _ (λ w. referent_in_clean (get w.names.map q)) (λ w. refl)

  pub name_referent_explains : (q : List Seg) → WorldExplains accesses (name_referent q)
  unfolding name_referent
  name_referent_explains q = then_explains _ _ (declared_referent_explains q) (λ r. referent_followed_explains _ (followed_explains _) r)

  pub target_referent_explains : (at : StoreTarget) → WorldExplains accesses (target_referent at)
  target_referent_explains targets.Nowhere = give_explains _
  target_referent_explains (targets.Slot slot) = slot_referent_explains slot
  target_referent_explains (targets.Name q) = name_referent_explains q
  target_referent_explains (targets.Refers r) = followed_explains _ r

  pub value_referent_explains : (v : Value) → WorldExplains accesses (value_followed (followed most_references) v)
  value_referent_explains v = value_followed_explains _ (followed_explains _) v

  -- ---- stores

  pub slot_put_explains : (k : ℕ) (slot : Slot) (v : Value) → WorldExplains accesses (slot_put k slot v)
  unfolding slot_put
  slot_put_explains k slot v = direct_explains _ (λ w. tt) (λ w. refl)

  pub copy_into_slot_explains : (k : ℕ) (slot : Slot) (v : Value) → WorldExplains accesses (copy_into_slot k slot v)
  unfolding copy_into_slot
  copy_into_slot_explains k slot v = then_explains _ _ (on_objects_explains _ (copied_clean _)) (λ c. then_explains _ _ (slot_put_explains k slot c) (λ put. give_explains _))

  pub copy_into_name_explains : (q : List Seg) (v : Value) → WorldExplains accesses (copy_into_name q v)
  unfolding copy_into_name
  copy_into_name_explains q v = then_explains _ _ (on_objects_explains _ (copied_clean _)) (λ c. then_explains _ _ (on_names_explains _ (replaced_clean _ _)) (λ put. give_explains _))

  pub copy_into_element_explains : (o i : ℕ) (v : Value) → WorldExplains accesses (copy_into_element o i v)
  unfolding copy_into_element
  copy_into_element_explains o i v = then_explains _ _ (on_objects_explains _ (element_there_clean _ _)) (λ there. then_explains _ _ (on_objects_explains _ (copied_clean _)) (λ c. then_explains _ _ (on_objects_explains _ (write_element_clean _ _ _)) (λ put. give_explains _)))

  pub copy_over_explains : (h : Holding) (q : List Seg) (v : Value) → WorldExplains accesses (copy_over h q v)
  copy_over_explains (holding.Value old) q v = copy_into_name_explains q v
  copy_over_explains (holding.Field f) q v = give_explains _
  copy_over_explains holding.Nothing q v = stop_explains _ tt

  pub text_in_explains : (v : Value) → WorldExplains accesses (text_in v)
  unfolding text_in
  text_in_explains v = direct_explains _ (λ w. to_text_of_clean w.width (content_in w.objects v)) (λ w. refl)

  pub bytes_in_explains : (v : Value) → WorldExplains accesses (bytes_in v)
  unfolding bytes_in
  bytes_in_explains v = direct_explains _ (λ w. to_buffer_of_clean w.width (content_in w.objects v)) (λ w. refl)

  pub store_integer_explains : (q : List Seg) (v : Value) → WorldExplains accesses (store_integer q v)
  unfolding store_integer
  store_integer_explains q v = then_explains _ _ (integer_in_explains v) (λ n. then_explains _ _ (on_names_explains _ (replaced_clean _ _)) (λ put. give_explains _))

  pub store_text_explains : (o : ℕ) (v : Value) → WorldExplains accesses (store_text o v)
  unfolding store_text
  store_text_explains o v = then_explains _ _ (text_in_explains v) (λ bytes. then_explains _ _ (on_objects_explains _ (write_string_clean _ _)) (λ put. give_explains _))

  pub store_bytes_explains : (o : ℕ) (v : Value) → WorldExplains accesses (store_bytes o v)
  unfolding store_bytes
  store_bytes_explains o v = then_explains _ _ (bytes_in_explains v) (λ bytes. then_explains _ _ (on_objects_explains _ (write_buffer_clean _ _)) (λ put. give_explains _))

  pub store_package_explains : (q : List Seg) (v : Value) → WorldExplains accesses (store_package q v)
  store_package_explains q (value.Package o) = copy_into_name_explains q _
  store_package_explains q value.Uninitialized = stop_explains _ tt
  store_package_explains q (value.Integer n) = stop_explains _ tt
  store_package_explains q (value.String o) = stop_explains _ tt
  store_package_explains q (value.Buffer o) = stop_explains _ tt
  store_package_explains q (value.Reference r) = stop_explains _ tt

  pub store_over_value_explains : (old : Value) (q : List Seg) (v : Value) → WorldExplains accesses (store_over_value old q v)
  store_over_value_explains (value.Integer n) q v = store_integer_explains q v
  store_over_value_explains (value.String o) q v = store_text_explains o v
  store_over_value_explains (value.Buffer o) q v = store_bytes_explains o v
  store_over_value_explains (value.Package o) q v = store_package_explains q v
  store_over_value_explains (value.Reference r) q v = copy_into_name_explains q v
  store_over_value_explains value.Uninitialized q v = copy_into_name_explains q v

  pub store_over_explains : (h : Holding) (q : List Seg) (v : Value) → WorldExplains accesses (store_over h q v)
  store_over_explains (holding.Value old) q v = store_over_value_explains old q v
  store_over_explains (holding.Field f) q v = give_explains _
  store_over_explains holding.Nothing q v = stop_explains _ tt

  pub byte_in_explains : (v : Value) → WorldExplains accesses (byte_in v)
  unfolding byte_in
  byte_in_explains v = direct_explains _ (λ w. byte_of_clean (content_in w.objects v)) (λ w. refl)

  pub store_byte_explains : (o i : ℕ) (v : Value) → WorldExplains accesses (store_byte o i v)
  unfolding store_byte
  store_byte_explains o i v = then_explains _ _ (on_objects_explains _ (byte_at_clean _ _)) (λ old. then_explains _ _ (byte_in_explains v) (λ b. then_explains _ _ (on_objects_explains _ (write_byte_clean _ _ _)) (λ put. give_explains _)))

  pub copy_into_declared_explains : (n : ℕ) (v : Value) → WorldExplains accesses (copy_into_declared n v)
  unfolding copy_into_declared
  copy_into_declared_explains n v = then_explains _ _ (declaration_explains n) (λ e. copy_over_explains _ e.0 v)

  module _ (through : Reference → Value → Change (State S) Stored) (stores : (r : Reference) (v : Value) → WorldExplains accesses (through r v)) where
    store_over_slot_explains : (k : ℕ) (slot : Slot) (held v : Value) → WorldExplains accesses (store_over_slot through k slot held v)
    store_over_slot_explains k (Local i) held v = copy_into_slot_explains k _ v
    store_over_slot_explains k (Argument i) (value.Reference r) v = stores r v
    store_over_slot_explains k (Argument i) value.Uninitialized v = copy_into_slot_explains k _ v
    store_over_slot_explains k (Argument i) (value.Integer n) v = copy_into_slot_explains k _ v
    store_over_slot_explains k (Argument i) (value.String o) v = copy_into_slot_explains k _ v
    store_over_slot_explains k (Argument i) (value.Buffer o) v = copy_into_slot_explains k _ v
    store_over_slot_explains k (Argument i) (value.Package o) v = copy_into_slot_explains k _ v

    store_in_frame_explains : (k : ℕ) (slot : Slot) (v : Value) → WorldExplains accesses (store_in_frame through k slot v)
    unfolding store_in_frame
    store_in_frame_explains k slot v = then_explains _ _ (slot_held_explains k slot) (λ held. store_over_slot_explains k slot held v)

    store_in_frame_numbered_explains : (n : ℕ) (slot : Slot) (v : Value) → WorldExplains accesses (store_in_frame_numbered through n slot v)
    unfolding store_in_frame_numbered
    store_in_frame_numbered_explains n slot v = then_explains _ _ (frame_found_explains n) (λ k. store_in_frame_explains k slot v)

    store_at_reference_explains : (r : Reference) (v : Value) → WorldExplains accesses (store_at_reference through r v)
    store_at_reference_explains (reference.Name n) v = copy_into_declared_explains n v
    store_at_reference_explains (reference.Slot slot n) v = store_in_frame_numbered_explains n slot v
    store_at_reference_explains (reference.Element o i) v = copy_into_element_explains o i v
    store_at_reference_explains (reference.Byte o i) v = store_byte_explains o i v

  stored_through_explains : (n : ℕ) (r : Reference) (v : Value) → WorldExplains accesses (stored_through n r v)
  unfolding stored_through
  stored_through_explains zero r v = stop_explains _ tt
  stored_through_explains (suc n) r v = store_at_reference_explains (stored_through n) (stored_through_explains n) r v

  pub store_in_slot_explains : (slot : Slot) (v : Value) → WorldExplains accesses (store_in_slot slot v)
  unfolding store_in_slot
  store_in_slot_explains slot v = then_explains _ _ latest_frame_explains (λ k. store_in_frame_explains _ (stored_through_explains _) k slot v)

  pub store_in_name_explains : (q : List Seg) (v : Value) → WorldExplains accesses (store_in_name q v)
  unfolding store_in_name
  store_in_name_explains q v = then_explains _ _ (held_at_explains q) (λ h. store_over_explains h q v)

  pub store_to_explains : (r : Reference) (v : Value) → WorldExplains accesses (store_to r v)
  unfolding store_in_declared
  store_to_explains (reference.Name n) v = then_explains _ _ (declaration_explains n) (λ e. store_over_explains _ e.0 v)
  store_to_explains (reference.Slot slot n) v = store_in_frame_numbered_explains _ (stored_through_explains _) n slot v
  store_to_explains (reference.Element o i) v = copy_into_element_explains o i v
  store_to_explains (reference.Byte o i) v = store_byte_explains o i v

  pub stored_explains : (at : StoreTarget) (v : Value) → WorldExplains accesses (stored at v)
  stored_explains targets.Nowhere v = give_explains _
  stored_explains (targets.Slot slot) v = store_in_slot_explains slot v
  stored_explains (targets.Name q) v = store_in_name_explains q v
  stored_explains (targets.Refers r) v = store_to_explains r v

  pub copy_in_name_explains : (q : List Seg) (v : Value) → WorldExplains accesses (copy_in_name q v)
  unfolding copy_in_name
  copy_in_name_explains q v = then_explains _ _ (held_at_explains q) (λ h. copy_over_explains h q v)

  pub copied_to_explains : (at : StoreTarget) (v : Value) → WorldExplains accesses (copied_to at v)
  copied_to_explains targets.Nowhere v = give_explains _
  copied_to_explains (targets.Slot slot) v = store_in_slot_explains slot v
  copied_to_explains (targets.Name q) v = copy_in_name_explains q v
  copied_to_explains (targets.Refers r) v = stored_through_explains _ r v

  -- ---- mutexes

  pub mutex_count_explains : (q : List Seg) → WorldExplains accesses (mutex_count q)
  unfolding mutex_count
  mutex_count_explains q = direct_explains _ (λ w. count_in_clean (get w.names.map q)) (λ w. refl)

  pub acquired_explains : (q : List Seg) → WorldExplains accesses (acquired q)
  unfolding acquired
  acquired_explains q = then_explains _ _ (mutex_count_explains q) (λ n. then_explains _ _ (settle_explains _ (once_more_clean _)) (λ m. on_names_explains _ (replaced_clean _ _)))

  acquired_by_explains : (r : Reference) → WorldExplains accesses (acquired_by r)
  unfolding acquired_by_number
  acquired_by_explains (reference.Name n) = then_explains _ _ (declaration_explains n) (λ e. acquired_explains e.0)
  acquired_by_explains (reference.Slot slot n) = stop_explains _ tt
  acquired_by_explains (reference.Element o i) = stop_explains _ tt
  acquired_by_explains (reference.Byte o i) = stop_explains _ tt

  pub acquired_at_explains : (at : StoreTarget) → WorldExplains accesses (acquired_at at)
  acquired_at_explains targets.Nowhere = stop_explains _ tt
  acquired_at_explains (targets.Slot slot) = stop_explains _ tt
  acquired_at_explains (targets.Name q) = acquired_explains q
  acquired_at_explains (targets.Refers r) = acquired_by_explains r

  pub given_back_explains : (q : List Seg) → WorldExplains accesses (given_back q)
  unfolding given_back
  given_back_explains q = then_explains _ _ (mutex_count_explains q) (λ n. then_explains _ _ (settle_explains _ (once_less_clean _)) (λ m. on_names_explains _ (replaced_clean _ _)))

  given_back_by_explains : (r : Reference) → WorldExplains accesses (given_back_by r)
  unfolding given_back_by_number
  given_back_by_explains (reference.Name n) = then_explains _ _ (declaration_explains n) (λ e. given_back_explains e.0)
  given_back_by_explains (reference.Slot slot n) = stop_explains _ tt
  given_back_by_explains (reference.Element o i) = stop_explains _ tt
  given_back_by_explains (reference.Byte o i) = stop_explains _ tt

  pub given_back_at_explains : (at : StoreTarget) → WorldExplains accesses (given_back_at at)
  given_back_at_explains targets.Nowhere = stop_explains _ tt
  given_back_at_explains (targets.Slot slot) = stop_explains _ tt
  given_back_at_explains (targets.Name q) = given_back_explains q
  given_back_at_explains (targets.Refers r) = given_back_by_explains r
