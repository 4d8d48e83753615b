-- Reading, storing and acquiring at a target go the same way over two register spaces.
use Rattle.std.specs.Prelude.{ℕ, zero, suc, List, refl}
use Rattle.ar_space.specs.Accesses.{Accesses}
use Rattle.ar_space.specs.Change.{Change}
use Rattle.aml_path.specs.declared.segment.Seg.{Seg}
use Rattle.aml_path.specs.Paths.{Name}
use Rattle.aml_objects.specs.declared.value.Value.{Value}
use Rattle.aml_objects.specs.declared.value.Value.TheVariants as value
use Rattle.aml_objects.specs.declared.value.Slot.{Slot}
use Rattle.aml_objects.specs.declared.value.Slot.TheVariants.{Local, Argument}
use Rattle.aml_objects.specs.declared.value.Reference.{Reference}
use Rattle.aml_objects.specs.declared.value.Reference.TheVariants as reference
use Rattle.aml_objects.specs.declared.object.Element.{Element}
use Rattle.aml_objects.specs.declared.object.Element.TheVariants as element
use Rattle.aml_objects.specs.declared.entry.NamedObject.{NamedObject}
use Rattle.aml_objects.specs.declared.entry.NamedObject.TheVariants as object
use Rattle.aml_world.specs.declared.values.store_target.StoreTarget.{StoreTarget}
use Rattle.aml_world.specs.declared.values.store_target.StoreTarget.TheVariants as targets
use Rattle.aml_world.specs.declared.values.store_target.Holding.{Holding}
use Rattle.aml_world.specs.declared.values.store_target.Holding.TheVariants as holding
use Rattle.aml_world.specs.declared.values.store_target.Stored.{Stored}
use Rattle.aml_world.specs.declared.values.object_type.Referent.{Referent}
use Rattle.aml_world.specs.declared.values.object_type.Referent.TheVariants as referent
use Rattle.aml_world.specs.state.State.{State}
use Rattle.aml_world.specs.state.Readings.{read_as}
use Rattle.aml_world.specs.values.StoreTargets.{held_at, latest_frame, frame_found, slot_held, own_slot, slot_read, name_read, held_in_slot, target_read, declaration, byte_followed, value_followed, referent_followed, declared_followed, slot_followed, element_named, name_followed, element_followed, held_followed, reference_followed, followed, slot_referent, declared_referent, name_referent, target_referent, name_tested, frame_tested, byte_tested, tested, declared_once, value_once, slot_once, name_once, element_once, held_once, byte_once, dereferenced, frame_number, slot_reference, declared_number, name_reference, reference_of, slot_initialized, element_initialized, if_initialized, reference_if_found, most_references}
use Rattle.aml_world.specs.values.Stores.{slot_put, copy_into_slot, copy_into_name, copy_into_element, copy_over, text_in, bytes_in, store_integer, store_text, store_bytes, store_package, store_over_value, store_over, byte_in, store_byte, copy_into_declared, store_over_slot, store_in_declared, store_to, store_in_frame, store_in_frame_numbered, store_at_reference, stored_through, store_in_slot, store_in_name, stored, copy_in_name, copied_to}
use Rattle.aml_world.specs.state.Mutexes.{mutex_count, acquired, given_back, acquired_by_number, given_back_by_number, acquired_by, given_back_by, acquired_at, given_back_at}
use Rattle.aml_laws.proofs.Together.{Sides, Together, give_together, plain, settle_together, stop_together, then_together}
use Rattle.aml_laws.proofs.WorldsTogether.{names_together, objects_together, worlds}
use Rattle.aml_laws.proofs.ChangesTogether.{entry_found_together, integer_in_together}

module _ {S T : Type 0} {accesses : Accesses S} {accesses2 : Accesses T} {side : Sides accesses accesses2} where
  -- ---- what stands there

  pub held_at_together : (q : List Seg) → Together side worlds (held_at q) (held_at q)
  unfolding held_at
  held_at_together q = plain (λ w. refl) (λ w. refl) (λ w t. refl)

  pub latest_frame_together : Together side worlds (latest_frame) (latest_frame)
  unfolding latest_frame
  latest_frame_together = plain (λ w. refl) (λ w. refl) (λ w t. refl)

  pub frame_found_together : (n : ℕ) → Together side worlds (frame_found n) (frame_found n)
  unfolding frame_found
  frame_found_together n = plain (λ w. refl) (λ w. refl) (λ w t. refl)

  pub slot_held_together : (k : ℕ) (slot : Slot) → Together side worlds (slot_held k slot) (slot_held k slot)
  unfolding slot_held
  slot_held_together k slot = plain (λ w. refl) (λ w. refl) (λ w t. refl)

  pub own_slot_together : (slot : Slot) → Together side worlds (own_slot slot) (own_slot slot)
  unfolding own_slot
  own_slot_together slot = then_together latest_frame_together (λ k. slot_held_together k slot)

  pub slot_read_together : (slot : Slot) → Together side worlds (slot_read slot) (slot_read slot)
  unfolding slot_read
  slot_read_together slot = then_together (own_slot_together slot) (λ v. settle_together _)

  pub name_read_together : (q : List Seg) → Together side worlds (name_read q) (name_read q)
  unfolding name_read
  name_read_together q = then_together (held_at_together q) (λ h. settle_together _)

  pub held_in_slot_together : (slot : Slot) → Together side worlds (held_in_slot slot) (held_in_slot slot)
  unfolding held_in_slot
  held_in_slot_together slot = then_together (slot_read_together slot) (λ v. give_together _)

  pub declaration_together : (n : ℕ) → Together side worlds (declaration n) (declaration n)
  unfolding declaration
  declaration_together n = plain (λ w. refl) (λ w. refl) (λ w t. refl)

  pub tested_together : (r : Reference) → Together side worlds (tested r) (tested r)
  unfolding name_tested frame_tested byte_tested
  tested_together (reference.Name n) = then_together (declaration_together n) (λ e. give_together _)
  tested_together (reference.Slot slot n) = then_together (frame_found_together n) (λ k. give_together _)
  tested_together (reference.Element o i) = objects_together _
  tested_together (reference.Byte o i) = then_together (objects_together _) (λ b. give_together _)

  value_once_together : (v : Value) → Together side worlds (value_once v) (value_once v)
  unfolding value_once
  value_once_together v = then_together (settle_together _) (λ x. give_together _)

  element_once_together : (e : Element) → Together side worlds (element_once e) (element_once e)
  unfolding name_once
  element_once_together (element.Value v) = value_once_together v
  element_once_together (element.Name n scope) = then_together (entry_found_together scope n) (λ e. give_together _)

  pub dereferenced_together : (r : Reference) → Together side worlds (dereferenced r) (dereferenced r)
  unfolding declared_once slot_once held_once byte_once
  dereferenced_together (reference.Name n) = then_together (declaration_together n) (λ e. give_together _)
  dereferenced_together (reference.Slot slot n) = then_together (frame_found_together n) (λ k. then_together (slot_held_together k slot) (λ v. value_once_together v))
  dereferenced_together (reference.Element o i) = then_together (objects_together _) (λ e. element_once_together e)
  dereferenced_together (reference.Byte o i) = then_together (objects_together _) (λ b. give_together _)

  pub target_read_together : (at : StoreTarget) → Together side worlds (target_read at) (target_read at)
  target_read_together targets.Nowhere = stop_together _
  target_read_together (targets.Slot slot) = held_in_slot_together slot
  target_read_together (targets.Name q) = name_read_together q
  target_read_together (targets.Refers r) = dereferenced_together r

  frame_number_together : (k : ℕ) → Together side worlds (frame_number k) (frame_number k)
  unfolding frame_number
  frame_number_together k = plain (λ w. refl) (λ w. refl) (λ w t. refl)

  pub declared_number_together : (q : List Seg) → Together side worlds (declared_number q) (declared_number q)
  unfolding declared_number
  declared_number_together q = plain (λ w. refl) (λ w. refl) (λ w t. refl)

  pub reference_of_together : (at : StoreTarget) → Together side worlds (reference_of at) (reference_of at)
  unfolding slot_reference name_reference
  reference_of_together targets.Nowhere = stop_together _
  reference_of_together (targets.Slot slot) = then_together latest_frame_together (λ k. then_together (frame_number_together k) (λ n. give_together _))
  reference_of_together (targets.Name q) = then_together (declared_number_together q) (λ n. give_together _)
  reference_of_together (targets.Refers r) = give_together _

  pub if_initialized_together : (r : Reference) → Together side worlds (if_initialized r) (if_initialized r)
  unfolding slot_initialized element_initialized
  if_initialized_together (reference.Name n) = give_together _
  if_initialized_together (reference.Slot slot n) = then_together (frame_found_together n) (λ k. then_together (slot_held_together k slot) (λ v. give_together _))
  if_initialized_together (reference.Element o i) = then_together (objects_together _) (λ e. give_together _)
  if_initialized_together (reference.Byte o i) = give_together _

  pub reference_if_found_together : (scope : List Seg) (n : Name) → Together side worlds (reference_if_found scope n) (reference_if_found scope n)
  unfolding reference_if_found
  reference_if_found_together scope n = plain (λ w. refl) (λ w. refl) (λ w t. refl)

  pub byte_followed_together : (o i : ℕ) → Together side worlds (byte_followed o i) (byte_followed o i)
  unfolding byte_followed
  byte_followed_together o i = then_together (objects_together _) (λ b. give_together _)

  module _ {follow : Reference → Change (State S) Referent} {follow2 : Reference → Change (State T) Referent} (follows : (r : Reference) → Together side worlds (follow r) (follow2 r)) where
    value_followed_together : (v : Value) → Together side worlds (value_followed follow v) (value_followed follow2 v)
    value_followed_together value.Uninitialized = give_together _
    value_followed_together (value.Integer n) = give_together _
    value_followed_together (value.String o) = give_together _
    value_followed_together (value.Buffer o) = give_together _
    value_followed_together (value.Package o) = give_together _
    value_followed_together (value.Reference r) = follows r

    referent_followed_together : (r : Referent) → Together side worlds (referent_followed follow r) (referent_followed follow2 r)
    referent_followed_together (referent.Value v) = value_followed_together v
    referent_followed_together (referent.Object t) = give_together _
    referent_followed_together (referent.Field u) = give_together _
    referent_followed_together (referent.Bytes n) = give_together _

    declared_followed_together : (n : ℕ) → Together side worlds (declared_followed follow n) (declared_followed follow2 n)
    unfolding declared_followed
    declared_followed_together n = then_together (declaration_together n) (λ e. referent_followed_together _)

    slot_followed_together : (n : ℕ) (slot : Slot) → Together side worlds (slot_followed follow n slot) (slot_followed follow2 n slot)
    unfolding slot_followed
    slot_followed_together n slot = then_together (frame_found_together n) (λ k. then_together (slot_held_together k slot) (λ v. value_followed_together v))

    element_named_together : (n : ℕ) (o : NamedObject) → Together side worlds (element_named follow n o) (element_named follow2 n o)
    element_named_together n (object.Data v) = value_followed_together (read_as n v)
    element_named_together n (object.FieldUnit u) = give_together _
    element_named_together n object.Scope = follows (reference.Name n)
    element_named_together n object.Device = follows (reference.Name n)
    element_named_together n object.Processor = follows (reference.Name n)
    element_named_together n object.PowerResource = follows (reference.Name n)
    element_named_together n object.ThermalZone = follows (reference.Name n)
    element_named_together n (object.Method m) = follows (reference.Name n)
    element_named_together n (object.OperationRegion r) = follows (reference.Name n)
    element_named_together n (object.BufferField b) = give_together _
    element_named_together n (object.Mutex c) = follows (reference.Name n)
    element_named_together n (object.Event c) = follows (reference.Name n)
    element_named_together n (object.Alias q) = follows (reference.Name n)

    name_followed_together : (n : Name) (scope : List Seg) → Together side worlds (name_followed follow n scope) (name_followed follow2 n scope)
    unfolding name_followed
    name_followed_together n scope = then_together (entry_found_together scope n) (λ e. element_named_together e.number e.object)

    element_followed_together : (e : Element) → Together side worlds (element_followed follow e) (element_followed follow2 e)
    element_followed_together (element.Value v) = value_followed_together v
    element_followed_together (element.Name n scope) = name_followed_together n scope

    held_followed_together : (o i : ℕ) → Together side worlds (held_followed follow o i) (held_followed follow2 o i)
    unfolding held_followed
    held_followed_together o i = then_together (objects_together _) (λ e. element_followed_together e)

    reference_followed_together : (r : Reference) → Together side worlds (reference_followed follow r) (reference_followed follow2 r)
    reference_followed_together (reference.Name n) = declared_followed_together n
    reference_followed_together (reference.Slot slot n) = slot_followed_together n slot
    reference_followed_together (reference.Element o i) = held_followed_together o i
    reference_followed_together (reference.Byte o i) = byte_followed_together o i

  followed_together : (n : ℕ) (r : Reference) → Together side worlds (followed n r) (followed n r)
  unfolding followed
  followed_together zero r = stop_together _
  followed_together (suc n) r = reference_followed_together (followed_together n) r

  pub slot_referent_together : (slot : Slot) → Together side worlds (slot_referent slot) (slot_referent slot)
  unfolding slot_referent
  slot_referent_together slot = then_together (own_slot_together slot) (λ v. value_followed_together (followed_together _) v)

  pub declared_referent_together : (q : List Seg) → Together side worlds (declared_referent q) (declared_referent q)
  unfolding declared_referent
  declared_referent_together q = plain (λ w. refl) (λ w. refl) (λ w t. refl)

  pub name_referent_together : (q : List Seg) → Together side worlds (name_referent q) (name_referent q)
  unfolding name_referent
  name_referent_together q = then_together (declared_referent_together q) (λ r. referent_followed_together (followed_together _) r)

  pub target_referent_together : (at : StoreTarget) → Together side worlds (target_referent at) (target_referent at)
  target_referent_together targets.Nowhere = give_together _
  target_referent_together (targets.Slot slot) = slot_referent_together slot
  target_referent_together (targets.Name q) = name_referent_together q
  target_referent_together (targets.Refers r) = followed_together _ r

  pub value_referent_together : (v : Value) → Together side worlds (value_followed (followed most_references) v) (value_followed (followed most_references) v)
  value_referent_together v = value_followed_together (followed_together _) v

  -- ---- stores

  pub slot_put_together : (k : ℕ) (slot : Slot) (v : Value) → Together side worlds (slot_put k slot v) (slot_put k slot v)
  unfolding slot_put
  slot_put_together k slot v = plain (λ w. refl) (λ w. refl) (λ w t. refl)

  pub copy_into_slot_together : (k : ℕ) (slot : Slot) (v : Value) → Together side worlds (copy_into_slot k slot v) (copy_into_slot k slot v)
  unfolding copy_into_slot
  copy_into_slot_together k slot v = then_together (objects_together _) (λ c. then_together (slot_put_together k slot c) (λ put. give_together _))

  pub copy_into_name_together : (q : List Seg) (v : Value) → Together side worlds (copy_into_name q v) (copy_into_name q v)
  unfolding copy_into_name
  copy_into_name_together q v = then_together (objects_together _) (λ c. then_together (names_together _) (λ put. give_together _))

  pub copy_into_element_together : (o i : ℕ) (v : Value) → Together side worlds (copy_into_element o i v) (copy_into_element o i v)
  unfolding copy_into_element
  copy_into_element_together o i v = then_together (objects_together _) (λ there. then_together (objects_together _) (λ c. then_together (objects_together _) (λ put. give_together _)))

  pub copy_over_together : (h : Holding) (q : List Seg) (v : Value) → Together side worlds (copy_over h q v) (copy_over h q v)
  copy_over_together (holding.Value old) q v = copy_into_name_together q v
  copy_over_together (holding.Field f) q v = give_together _
  copy_over_together holding.Nothing q v = stop_together _

  pub text_in_together : (v : Value) → Together side worlds (text_in v) (text_in v)
  unfolding text_in
  text_in_together v = plain (λ w. refl) (λ w. refl) (λ w t. refl)

  pub bytes_in_together : (v : Value) → Together side worlds (bytes_in v) (bytes_in v)
  unfolding bytes_in
  bytes_in_together v = plain (λ w. refl) (λ w. refl) (λ w t. refl)

  pub store_integer_together : (q : List Seg) (v : Value) → Together side worlds (store_integer q v) (store_integer q v)
  unfolding store_integer
  store_integer_together q v = then_together (integer_in_together v) (λ n. then_together (names_together _) (λ put. give_together _))

  pub store_text_together : (o : ℕ) (v : Value) → Together side worlds (store_text o v) (store_text o v)
  unfolding store_text
  store_text_together o v = then_together (text_in_together v) (λ bytes. then_together (objects_together _) (λ put. give_together _))

  pub store_bytes_together : (o : ℕ) (v : Value) → Together side worlds (store_bytes o v) (store_bytes o v)
  unfolding store_bytes
  store_bytes_together o v = then_together (bytes_in_together v) (λ bytes. then_together (objects_together _) (λ put. give_together _))

  pub store_package_together : (q : List Seg) (v : Value) → Together side worlds (store_package q v) (store_package q v)
  store_package_together q (value.Package o) = copy_into_name_together q _
  store_package_together q value.Uninitialized = stop_together _
  store_package_together q (value.Integer n) = stop_together _
  store_package_together q (value.String o) = stop_together _
  store_package_together q (value.Buffer o) = stop_together _
  store_package_together q (value.Reference r) = stop_together _

  pub store_over_value_together : (old : Value) (q : List Seg) (v : Value) → Together side worlds (store_over_value old q v) (store_over_value old q v)
  store_over_value_together (value.Integer n) q v = store_integer_together q v
  store_over_value_together (value.String o) q v = store_text_together o v
  store_over_value_together (value.Buffer o) q v = store_bytes_together o v
  store_over_value_together (value.Package o) q v = store_package_together q v
  store_over_value_together (value.Reference r) q v = copy_into_name_together q v
  store_over_value_together value.Uninitialized q v = copy_into_name_together q v

  pub store_over_together : (h : Holding) (q : List Seg) (v : Value) → Together side worlds (store_over h q v) (store_over h q v)
  store_over_together (holding.Value old) q v = store_over_value_together old q v
  store_over_together (holding.Field f) q v = give_together _
  store_over_together holding.Nothing q v = stop_together _

  pub byte_in_together : (v : Value) → Together side worlds (byte_in v) (byte_in v)
  unfolding byte_in
  byte_in_together v = plain (λ w. refl) (λ w. refl) (λ w t. refl)

  pub store_byte_together : (o i : ℕ) (v : Value) → Together side worlds (store_byte o i v) (store_byte o i v)
  unfolding store_byte
  store_byte_together o i v = then_together (objects_together _) (λ old. then_together (byte_in_together v) (λ b. then_together (objects_together _) (λ put. give_together _)))

  pub copy_into_declared_together : (n : ℕ) (v : Value) → Together side worlds (copy_into_declared n v) (copy_into_declared n v)
  unfolding copy_into_declared
  copy_into_declared_together n v = then_together (declaration_together n) (λ e. copy_over_together _ e.0 v)

  module _ {through : Reference → Value → Change (State S) Stored} {through2 : Reference → Value → Change (State T) Stored} (goes : (r : Reference) (v : Value) → Together side worlds (through r v) (through2 r v)) where
    store_over_slot_together : (k : ℕ) (slot : Slot) (held v : Value) → Together side worlds (store_over_slot through k slot held v) (store_over_slot through2 k slot held v)
    store_over_slot_together k (Local i) held v = copy_into_slot_together k _ v
    store_over_slot_together k (Argument i) (value.Reference r) v = goes r v
    store_over_slot_together k (Argument i) value.Uninitialized v = copy_into_slot_together k _ v
    store_over_slot_together k (Argument i) (value.Integer n) v = copy_into_slot_together k _ v
    store_over_slot_together k (Argument i) (value.String o) v = copy_into_slot_together k _ v
    store_over_slot_together k (Argument i) (value.Buffer o) v = copy_into_slot_together k _ v
    store_over_slot_together k (Argument i) (value.Package o) v = copy_into_slot_together k _ v

    store_in_frame_together : (k : ℕ) (slot : Slot) (v : Value) → Together side worlds (store_in_frame through k slot v) (store_in_frame through2 k slot v)
    unfolding store_in_frame
    store_in_frame_together k slot v = then_together (slot_held_together k slot) (λ held. store_over_slot_together k slot held v)

    store_in_frame_numbered_together : (n : ℕ) (slot : Slot) (v : Value) → Together side worlds (store_in_frame_numbered through n slot v) (store_in_frame_numbered through2 n slot v)
    unfolding store_in_frame_numbered
    store_in_frame_numbered_together n slot v = then_together (frame_found_together n) (λ k. store_in_frame_together k slot v)

    store_at_reference_together : (r : Reference) (v : Value) → Together side worlds (store_at_reference through r v) (store_at_reference through2 r v)
    store_at_reference_together (reference.Name n) v = copy_into_declared_together n v
    store_at_reference_together (reference.Slot slot n) v = store_in_frame_numbered_together n slot v
    store_at_reference_together (reference.Element o i) v = copy_into_element_together o i v
    store_at_reference_together (reference.Byte o i) v = store_byte_together o i v

  stored_through_together : (n : ℕ) (r : Reference) (v : Value) → Together side worlds (stored_through n r v) (stored_through n r v)
  unfolding stored_through
  stored_through_together zero r v = stop_together _
  stored_through_together (suc n) r v = store_at_reference_together (stored_through_together n) r v

  pub store_in_slot_together : (slot : Slot) (v : Value) → Together side worlds (store_in_slot slot v) (store_in_slot slot v)
  unfolding store_in_slot
  store_in_slot_together slot v = then_together latest_frame_together (λ k. store_in_frame_together (stored_through_together _) k slot v)

  pub store_in_name_together : (q : List Seg) (v : Value) → Together side worlds (store_in_name q v) (store_in_name q v)
  unfolding store_in_name
  store_in_name_together q v = then_together (held_at_together q) (λ h. store_over_together h q v)

  pub store_to_together : (r : Reference) (v : Value) → Together side worlds (store_to r v) (store_to r v)
  unfolding store_in_declared
  store_to_together (reference.Name n) v = then_together (declaration_together n) (λ e. store_over_together _ e.0 v)
  store_to_together (reference.Slot slot n) v = store_in_frame_numbered_together (stored_through_together _) n slot v
  store_to_together (reference.Element o i) v = copy_into_element_together o i v
  store_to_together (reference.Byte o i) v = store_byte_together o i v

  pub stored_together : (at : StoreTarget) (v : Value) → Together side worlds (stored at v) (stored at v)
  stored_together targets.Nowhere v = give_together _
  stored_together (targets.Slot slot) v = store_in_slot_together slot v
  stored_together (targets.Name q) v = store_in_name_together q v
  stored_together (targets.Refers r) v = store_to_together r v

  pub copy_in_name_together : (q : List Seg) (v : Value) → Together side worlds (copy_in_name q v) (copy_in_name q v)
  unfolding copy_in_name
  copy_in_name_together q v = then_together (held_at_together q) (λ h. copy_over_together h q v)

  pub copied_to_together : (at : StoreTarget) (v : Value) → Together side worlds (copied_to at v) (copied_to at v)
  copied_to_together targets.Nowhere v = give_together _
  copied_to_together (targets.Slot slot) v = store_in_slot_together slot v
  copied_to_together (targets.Name q) v = copy_in_name_together q v
  copied_to_together (targets.Refers r) v = stored_through_together _ r v

  -- ---- mutexes

  pub mutex_count_together : (q : List Seg) → Together side worlds (mutex_count q) (mutex_count q)
  unfolding mutex_count
  mutex_count_together q = plain (λ w. refl) (λ w. refl) (λ w t. refl)

  pub acquired_together : (q : List Seg) → Together side worlds (acquired q) (acquired q)
  unfolding acquired
  acquired_together q = then_together (mutex_count_together q) (λ n. then_together (settle_together _) (λ m. names_together _))

  acquired_by_together : (r : Reference) → Together side worlds (acquired_by r) (acquired_by r)
  unfolding acquired_by_number
  acquired_by_together (reference.Name n) = then_together (declaration_together n) (λ e. acquired_together e.0)
  acquired_by_together (reference.Slot slot n) = stop_together _
  acquired_by_together (reference.Element o i) = stop_together _
  acquired_by_together (reference.Byte o i) = stop_together _

  pub acquired_at_together : (at : StoreTarget) → Together side worlds (acquired_at at) (acquired_at at)
  acquired_at_together targets.Nowhere = stop_together _
  acquired_at_together (targets.Slot slot) = stop_together _
  acquired_at_together (targets.Name q) = acquired_together q
  acquired_at_together (targets.Refers r) = acquired_by_together r

  pub given_back_together : (q : List Seg) → Together side worlds (given_back q) (given_back q)
  unfolding given_back
  given_back_together q = then_together (mutex_count_together q) (λ n. then_together (settle_together _) (λ m. names_together _))

  given_back_by_together : (r : Reference) → Together side worlds (given_back_by r) (given_back_by r)
  unfolding given_back_by_number
  given_back_by_together (reference.Name n) = then_together (declaration_together n) (λ e. given_back_together e.0)
  given_back_by_together (reference.Slot slot n) = stop_together _
  given_back_by_together (reference.Element o i) = stop_together _
  given_back_by_together (reference.Byte o i) = stop_together _

  pub given_back_at_together : (at : StoreTarget) → Together side worlds (given_back_at at) (given_back_at at)
  given_back_at_together targets.Nowhere = stop_together _
  given_back_at_together (targets.Slot slot) = stop_together _
  given_back_at_together (targets.Name q) = given_back_together q
  given_back_at_together (targets.Refers r) = given_back_by_together r
