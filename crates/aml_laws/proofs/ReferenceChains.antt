-- A chain of references is followed to its end where enough of them may be followed, and refused where it is longer.
use Rattle.std.specs.Prelude.{◌≡◌, ◌≢◌, ◌≤◌, ◌<◌, ◌+◌, ◌-◌, ℕ, zero, suc, List, Bool, true, false, Option, Some, None, Ok, Err, refl}
use Rattle.std.specs.FinMap.{get}
use Rattle.std.proofs.Common.{arith, ap, subst, sym, ◌∙◌}
use Rattle.ar_space.specs.declared.refusal.Refusal.{Refusal}
use Rattle.ar_space.specs.declared.refusal.Refusal.TheVariants as refusal
use Rattle.ar_space.specs.declared.refusal.EvaluationFault.TheVariants.{DeadReference}
use Rattle.ar_space.specs.Outcome.{Outcome}
use Rattle.ar_space.specs.Change.{Change, give, stop, settle, go_on, ◌>>=◌}
use Rattle.aml_path.specs.declared.segment.Seg.{Seg}
use Rattle.aml_namespace.specs.Namespace.{numbered}
use Rattle.aml_objects.specs.Objects.{element_at, byte_at}
use Rattle.aml_objects.specs.declared.object.Element.{Element}
use Rattle.aml_objects.specs.declared.object.Element.TheVariants as element
use Rattle.aml_objects.specs.declared.entry.Entry.{Entry}
use Rattle.aml_objects.specs.declared.entry.Field.{Field}
use Rattle.aml_objects.specs.declared.entry.NamedObject.{NamedObject}
use Rattle.aml_objects.specs.declared.entry.NamedObject.TheVariants as object
use Rattle.aml_objects.specs.declared.value.Value.{Value}
use Rattle.aml_objects.specs.declared.value.Value.TheVariants as value
use Rattle.aml_objects.specs.declared.value.Slot.{Slot}
use Rattle.aml_objects.specs.declared.value.Slot.TheVariants.{Local, Argument}
use Rattle.aml_objects.specs.declared.value.Reference.{Reference}
use Rattle.aml_objects.specs.declared.value.Reference.TheVariants as reference
use Rattle.aml_world.specs.declared.values.store_target.Held.{Held}
use Rattle.aml_world.specs.declared.values.store_target.Held.TheVariants as held
use Rattle.aml_world.specs.declared.values.store_target.Stored.{Stored}
use Rattle.aml_world.specs.declared.values.store_target.StoreTarget.TheVariants as targets
use Rattle.aml_world.specs.declared.values.object_type.ObjectType.{ObjectType}
use Rattle.aml_world.specs.declared.values.object_type.ObjectType.TheVariants as types
use Rattle.aml_world.specs.declared.values.object_type.Referent.{Referent}
use Rattle.aml_world.specs.declared.values.object_type.Referent.TheVariants as referent
use Rattle.aml_world.specs.state.State.{State, on_objects}
use Rattle.aml_world.specs.state.Readings.{entry_found}
use Rattle.aml_world.specs.state.Slots.{frame_index, slot_at}
use Rattle.aml_world.specs.values.StoreTargets.{or_ended, frame_found, slot_held, declaration, once, declared_once, value_once, slot_once, named_once, name_once, element_once, held_once, byte_once, dereferenced, referent_of, byte_followed, value_followed, referent_followed, declared_followed, slot_followed, element_named, name_followed, element_followed, held_followed, reference_followed, followed, own_slot, slot_referent, declared_referent, name_referent, target_referent}
use Rattle.aml_world.specs.values.Stores.{store_over_slot, store_in_frame, store_in_frame_numbered, store_at_reference, stored_through}
use Rattle.aml_laws.specs.Limits.{is_reference, is_byte, HasType, of_scope, of_device, of_processor, of_power_resource, of_thermal_zone, of_method, of_region, of_field_unit, of_buffer_field, of_mutex, of_event, RefersLast, to_value, to_name, to_field, to_byte, Chain, last, next, IsLink, ArgumentChain, alone, link}

-- what a byte gives is no reference
nowhere_by : {S : Type 0} (x : Outcome ℕ) (u : State S) (q : Reference) → (go_on x u (λ b. give (held.Value (value.Integer b)))).0 ≡ Ok (held.Value (value.Reference q)) → ⊥
unfolding go_on give
nowhere_by (Ok b) u q is = cc is
nowhere_by (Err e) u q is = cc is

abbrev is_element : Reference → Bool
is_element (reference.Element o i) = true
is_element _ = false

module _ {S : Type 0} (follow : Reference → Change (State S) Referent) (w : State S) (from : Reference) where
  -- What is read one step on, and what is followed: where the one is no reference, it is answered; where it is another reference, that
  -- one is followed; and where an element of a package names a field, that is answered.
  pub record InStep (read : Outcome Held × State S) (end : Outcome Referent × State S) : Type 0 where
    pub ends : (v : Value) → read.0 ≡ Ok (held.Value v) → is_reference v ≡ false → end ≡ (Ok (referent.Value v), w)
    pub goes_on : (q : Reference) → read.0 ≡ Ok (held.Value (value.Reference q)) → q ≢ from → end ≡ follow q w
    pub fields : (f : Field) → is_element from ≡ true → read.0 ≡ Ok (held.Field f) → end ≡ (Ok (referent.Field f), w)

  refused_in_step : (e : Refusal) (u v : State S) → InStep (Err e, u) (Err e, v)
  refused_in_step e u v = record { ends = λ v is apart. absurd (cc is); goes_on = λ q is other. absurd (cc is); fields = λ f at is. absurd (cc is) }

  go_on_in_step : {A : Type 0} (x : Outcome A) (u : State S) (k : A → Change (State S) Held) (j : A → Change (State S) Referent) → u ≡ w → ((a : A) → InStep (k a w) (j a w)) → InStep (go_on x u k) (go_on x u j)
  unfolding go_on
  go_on_in_step (Ok a) u k j e all = subst (λ v. InStep (k a v) (j a v)) (sym e) (all a)
  go_on_in_step (Err e) u k j is all = refused_in_step e u u

  then_in_step : {A : Type 0} (m : Change (State S) A) (k : A → Change (State S) Held) (j : A → Change (State S) Referent) → (m w).1 ≡ w → ((a : A) → InStep (k a w) (j a w)) → InStep ((m >>= k) w) ((m >>= j) w)
  unfolding ◌>>=◌
  then_in_step m k j e all = go_on_in_step (m w).0 (m w).1 k j e all

  -- what is read is this value, and it is answered
  plain_in_step : (v : Value) → is_reference v ≡ false → InStep (Ok (held.Value v), w) (Ok (referent.Value v), w)
  plain_in_step v apart = record {
    ends = λ u is other. let same : v ≡ u = cc is in ap (λ y. (Ok (referent.Value y), w)) same;
    goes_on = λ q is other. let same : v ≡ value.Reference q = cc is in absurd (cc (sym apart ∙ ap is_reference same));
    fields = λ f at is. absurd (cc is);
  }

  -- what is read is a reference, and that is followed
  reference_in_step : (r : Reference) → InStep (Ok (held.Value (value.Reference r)), w) (follow r w)
  reference_in_step r = record {
    ends = λ v is apart. let same : value.Reference r ≡ v = cc is in absurd (cc (sym apart ∙ sym (ap is_reference same)));
    goes_on = λ q is other. let same : r ≡ q = cc is in ap (λ p. follow p w) same;
    fields = λ f at is. absurd (cc is);
  }

  -- what is read is the reference itself
  itself_in_step : (x : Referent) → InStep (Ok (held.Value (value.Reference from)), w) (Ok x, w)
  itself_in_step x = record {
    ends = λ v is apart. let same : value.Reference from ≡ v = cc is in absurd (cc (sym apart ∙ sym (ap is_reference same)));
    goes_on = λ q is other. let same : from ≡ q = cc is in absurd (other (sym same));
    fields = λ f at is. absurd (cc is);
  }

  -- what is read is a field: of a name, and of an element that is a name
  named_field_in_step : (f : Field) (x : Referent) → is_element from ≡ false → InStep (Ok (held.Field f), w) (Ok x, w)
  named_field_in_step f x apart = record { ends = λ v is other. absurd (cc is); goes_on = λ q is other. absurd (cc is); fields = λ g at is. absurd (cc (sym apart ∙ at)) }

  element_field_in_step : (f : Field) → InStep (Ok (held.Field f), w) (Ok (referent.Field f), w)
  element_field_in_step f = record {
    ends = λ v is other. absurd (cc is);
    goes_on = λ q is other. absurd (cc is);
    fields = λ g at is. let same : f ≡ g = cc is in ap (λ y. (Ok (referent.Field y), w)) same;
  }

  -- ---- values, names, elements

  value_in_step : (v : Value) → InStep (value_once v w) (value_followed follow v w)
  unfolding value_once settle give ◌>>=◌ go_on
  value_in_step value.Uninitialized = record { ends = λ v is apart. absurd (cc is); goes_on = λ q is other. absurd (cc is); fields = λ f at is. absurd (cc is) }
  value_in_step (value.Integer n) = plain_in_step _ refl
  value_in_step (value.String o) = plain_in_step _ refl
  value_in_step (value.Buffer o) = plain_in_step _ refl
  value_in_step (value.Package o) = plain_in_step _ refl
  value_in_step (value.Reference r) = reference_in_step r

  held_in_step : (v : Value) → InStep (Ok (held.Value v), w) (value_followed follow v w)
  unfolding give
  held_in_step (value.Reference r) = reference_in_step r
  held_in_step value.Uninitialized = plain_in_step _ refl
  held_in_step (value.Integer n) = plain_in_step _ refl
  held_in_step (value.String o) = plain_in_step _ refl
  held_in_step (value.Buffer o) = plain_in_step _ refl
  held_in_step (value.Package o) = plain_in_step _ refl

  no_element : (n : ℕ) → from ≡ reference.Name n → is_element from ≡ false
  no_element n is = rw is refl

  -- n: the number of the declaration, which the reference that is followed holds
  object_in_step : (n : ℕ) (o : NamedObject) → from ≡ reference.Name n → InStep (give (once n o) w) (referent_followed follow (referent_of o) w)
  unfolding give
  object_in_step n (object.Data v) is = held_in_step v
  object_in_step n (object.FieldUnit u) is = named_field_in_step _ _ (no_element n is)
  object_in_step n (object.BufferField b) is = named_field_in_step _ _ (no_element n is)
  object_in_step n object.Scope is = rw (← is) (itself_in_step _)
  object_in_step n object.Device is = rw (← is) (itself_in_step _)
  object_in_step n object.Processor is = rw (← is) (itself_in_step _)
  object_in_step n object.PowerResource is = rw (← is) (itself_in_step _)
  object_in_step n object.ThermalZone is = rw (← is) (itself_in_step _)
  object_in_step n (object.Method m) is = rw (← is) (itself_in_step _)
  object_in_step n (object.OperationRegion r) is = rw (← is) (itself_in_step _)
  object_in_step n (object.Mutex m) is = rw (← is) (itself_in_step _)
  object_in_step n (object.Event count) is = rw (← is) (itself_in_step _)
  object_in_step n (object.Alias p) is = rw (← is) (itself_in_step _)

  named_in_step : (n : ℕ) (o : NamedObject) → InStep (give (named_once n o) w) (element_named follow n o w)
  unfolding give
  named_in_step n (object.Data v) = held_in_step _
  named_in_step n (object.FieldUnit u) = element_field_in_step _
  named_in_step n (object.BufferField b) = element_field_in_step _
  named_in_step n _ = reference_in_step (reference.Name n)

  element_in_step : (e : Element) → InStep (element_once e w) (element_followed follow e w)
  unfolding name_once name_followed entry_found
  element_in_step (element.Value v) = value_in_step v
  element_in_step (element.Name n scope) = then_in_step _ _ _ refl (λ e. named_in_step e.number e.object)

  -- ---- references

  declared_in_step : (n : ℕ) → from ≡ reference.Name n → InStep (declared_once n w) (declared_followed follow n w)
  unfolding declared_once declared_followed declaration
  declared_in_step n is = then_in_step _ _ _ refl (λ e. object_in_step n e.1.object is)

  slot_in_step : (n : ℕ) (slot : _) → InStep (slot_once n slot w) (slot_followed follow n slot w)
  unfolding slot_once slot_followed frame_found slot_held
  slot_in_step n slot = then_in_step _ _ _ refl (λ k. then_in_step _ _ _ refl (λ v. value_in_step v))

  held_at_in_step : (o i : ℕ) → InStep (held_once o i w) (held_followed follow o i w)
  unfolding held_once held_followed on_objects element_at
  held_at_in_step o i = then_in_step _ _ _ refl element_in_step

  in_step : (r : Reference) → from ≡ r → is_byte r ≡ false → InStep (dereferenced r w) (reference_followed follow r w)
  in_step (reference.Name n) is other = declared_in_step n is
  in_step (reference.Slot slot n) is other = slot_in_step n slot
  in_step (reference.Element o i) is other = held_at_in_step o i
  in_step (reference.Byte o i) is other = absurd (cc other)

  -- ---- what holds no value, and bytes

  typed_referent : (o : NamedObject) (t : ObjectType) → HasType o t → referent_of o ≡ referent.Object t
  typed_referent _ _ of_scope = refl
  typed_referent _ _ of_device = refl
  typed_referent _ _ of_processor = refl
  typed_referent _ _ of_power_resource = refl
  typed_referent _ _ of_thermal_zone = refl
  typed_referent _ _ (of_method m) = refl
  typed_referent _ _ (of_region r) = refl
  typed_referent _ _ (of_field_unit u) = refl
  typed_referent _ _ (of_buffer_field b) = refl
  typed_referent _ _ (of_mutex n) = refl
  typed_referent _ _ (of_event n) = refl

  name_ends : (n : ℕ) (path : List Seg) (e : Entry) (t : ObjectType) → numbered n w.names.map ≡ Some (path, e) → HasType e.object t → reference_followed follow (reference.Name n) w ≡ (Ok (referent.Object t), w)
  unfolding declared_followed declaration give go_on ◌>>=◌
  name_ends n path e t at typed = rw (at, typed_referent e.object t typed) refl

  byte_ends : (o i b : ℕ) → (byte_at o i w.objects).0 ≡ Ok b → reference_followed follow (reference.Byte o i) w ≡ (Ok (referent.Object types.BufferField), w)
  unfolding byte_followed on_objects byte_at give go_on ◌>>=◌
  byte_ends o i b at = rw at refl

module _ {S : Type 0} (w : State S) where
  -- a byte is no reference to another one
  byte_goes_nowhere : (o i : ℕ) (q : Reference) → (dereferenced (reference.Byte o i) w).0 ≡ Ok (held.Value (value.Reference q)) → ⊥
  unfolding byte_once on_objects byte_at ◌>>=◌
  byte_goes_nowhere o i q is = nowhere_by (byte_at o i w.objects).0 w q is

  next_followed : (m : ℕ) (r q : Reference) → (dereferenced r w).0 ≡ Ok (held.Value (value.Reference q)) → q ≢ r → followed (suc m) r w ≡ followed m q w
  unfolding followed
  next_followed m (reference.Name n) q is other = (in_step (followed m) w (reference.Name n) (reference.Name n) refl refl).goes_on q is other
  next_followed m (reference.Slot slot n) q is other = (in_step (followed m) w (reference.Slot slot n) (reference.Slot slot n) refl refl).goes_on q is other
  next_followed m (reference.Element o i) q is other = (in_step (followed m) w (reference.Element o i) (reference.Element o i) refl refl).goes_on q is other
  next_followed m (reference.Byte o i) q is other = absurd (byte_goes_nowhere o i q is)

  last_followed : (m : ℕ) (r : Reference) (x : Referent) → RefersLast w r x → followed (suc m) r w ≡ (Ok x, w)
  unfolding followed
  last_followed m r _ (to_value _ v other is apart) = (in_step (followed m) w r r refl other).ends v is apart
  last_followed m _ _ (to_name n path e t at typed) = name_ends (followed m) w (reference.Name n) n path e t at typed
  last_followed m _ _ (to_field o i f is) = (in_step (followed m) w (reference.Element o i) (reference.Element o i) refl refl).fields f refl is
  last_followed m _ _ (to_byte o i b at) = byte_ends (followed m) w (reference.Byte o i) o i b at

  pub chain_followed : (n m : ℕ) (r : Reference) (x : Referent) → Chain w n r x → n ≤ m → followed m r w ≡ (Ok x, w)
  chain_followed n zero r x (last _ _ ends) le = absurd (omega arith)
  chain_followed n (suc m) r x (last _ _ ends) le = last_followed m r x ends
  chain_followed n zero r x (next k _ q _ is other c) le = absurd (omega arith)
  chain_followed n (suc m) r x (next k _ q _ is other c) le = next_followed m r q is other ∙ chain_followed k m q x c (omega arith)

  pub chain_refused : (n m : ℕ) (r : Reference) (x : Referent) → Chain w n r x → m < n → followed m r w ≡ (Err (refusal.Evaluation DeadReference), w)
  unfolding followed stop
  chain_refused n zero r x c less = refl
  chain_refused n (suc m) r x (last _ _ ends) less = absurd (omega arith)
  chain_refused n (suc m) r x (next k _ q _ is other c) less = next_followed m r q is other ∙ chain_refused k m q x c (omega arith)

  -- ---- names and slots that hold a reference

  pub name_followed_through : (path : List Seg) (e : Entry) (r : Reference) → get w.names.map path ≡ Some e → e.object ≡ object.Data (value.Reference r) → target_referent (targets.Name path) w ≡ target_referent (targets.Refers r) w
  unfolding name_referent declared_referent go_on ◌>>=◌
  name_followed_through path e r at is = rw (at, is) refl

  pub slot_followed_through : (slot : Slot) (r : Reference) → own_slot slot w ≡ (Ok (value.Reference r), w) → target_referent (targets.Slot slot) w ≡ target_referent (targets.Refers r) w
  unfolding slot_referent go_on ◌>>=◌
  slot_followed_through slot r is = rw is refl

-- ---- stores through arguments

module _ {S : Type 0} (w : State S) (v : Value) where
  link_followed : (follow : Reference → Value → Change (State S) Stored) (r q : Reference) → IsLink w r q → store_at_reference follow r v w ≡ follow q v w
  unfolding store_in_frame_numbered store_in_frame frame_found slot_held ◌>>=◌ go_on
  link_followed follow r q l = rw (l.is, l.stands, l.holds) refl

  one_on : (m : ℕ) (r q : Reference) → IsLink w r q → stored_through (suc m) r v w ≡ stored_through m q v w
  unfolding stored_through
  one_on m r q l = link_followed (stored_through m) r q l

  pub arguments_followed : (n m : ℕ) (r end : Reference) → ArgumentChain w n r end → n ≤ m → stored_through m r v w ≡ stored_through (m + 1 - n) end v w
  arguments_followed n m r end (alone _) le = ap (λ k. stored_through k end v w) (omega arith)
  arguments_followed n zero r end (link k _ q _ l c) le = absurd (omega arith)
  arguments_followed n (suc m) r end (link k _ q _ l c) le = one_on m r q l ∙ arguments_followed k m q end c (omega arith) ∙ ap (λ j. stored_through j end v w) (omega arith)

  pub arguments_refused : (n m : ℕ) (r end : Reference) → ArgumentChain w n r end → m < n → stored_through m r v w ≡ (Err (refusal.Evaluation DeadReference), w)
  unfolding stored_through stop
  arguments_refused n zero r end c less = refl
  arguments_refused n (suc m) r end (alone _) less = absurd (omega arith)
  arguments_refused n (suc m) r end (link k _ q _ l c) less = one_on m r q l ∙ arguments_refused k m q end c (omega arith)

  -- ---- what is stored to at the end of such a chain doesn't depend on how references are followed

  by_value : (f g : Reference → Value → Change (State S) Stored) (k i : ℕ) (h : Value) → ((q : Reference) → h ≡ value.Reference q → ⊥) → store_over_slot f k (Argument i) h v ≡ store_over_slot g k (Argument i) h v
  by_value f g k i (value.Reference q) none = absurd (none q refl)
  by_value f g k i value.Uninitialized none = refl
  by_value f g k i (value.Integer n) none = refl
  by_value f g k i (value.String o) none = refl
  by_value f g k i (value.Buffer o) none = refl
  by_value f g k i (value.Package o) none = refl

  by_held : (f g : Reference → Value → Change (State S) Stored) (k i : ℕ) (h : Outcome Value) → ((q : Reference) → h ≡ Ok (value.Reference q) → ⊥)
      → go_on h w (λ held. store_over_slot f k (Argument i) held v) ≡ go_on h w (λ held. store_over_slot g k (Argument i) held v)
  unfolding go_on
  by_held f g k i (Err e) none = refl
  by_held f g k i (Ok h) none = ap (λ (m : Change (State S) Stored). m w) (by_value f g k i h (λ q is. none q (ap Ok is)))

  in_frame : (f g : Reference → Value → Change (State S) Stored) (k i : ℕ) → ((q : Reference) → slot_at (Argument i) w.frames (Some k) ≡ Ok (value.Reference q) → ⊥)
      → store_in_frame f k (Argument i) v w ≡ store_in_frame g k (Argument i) v w
  unfolding store_in_frame slot_held ◌>>=◌
  in_frame f g k i none = by_held f g k i (slot_at (Argument i) w.frames (Some k)) none

  by_frame : (f g : Reference → Value → Change (State S) Stored) (n i : ℕ) (o : Option ℕ) → frame_index n w.frames ≡ o → ((q : Reference) → IsLink w (reference.Slot (Argument i) n) q → ⊥)
      → go_on (or_ended o) w (λ k. store_in_frame f k (Argument i) v) ≡ go_on (or_ended o) w (λ k. store_in_frame g k (Argument i) v)
  unfolding go_on
  by_frame f g n i None is none = refl
  by_frame f g n i (Some k) is none = in_frame f g k i (λ q holds. none q (record { argument = i; number = n; is = refl; frame = k; stands = is; holds = holds }))

  no_link_alike : (f g : Reference → Value → Change (State S) Stored) (end : Reference) → ((q : Reference) → IsLink w end q → ⊥) → store_at_reference f end v w ≡ store_at_reference g end v w
  unfolding store_in_frame_numbered store_in_frame frame_found ◌>>=◌
  no_link_alike f g (reference.Name n) none = refl
  no_link_alike f g (reference.Slot (Local i) n) none = refl
  no_link_alike f g (reference.Slot (Argument i) n) none = by_frame f g n i (frame_index n w.frames) refl none
  no_link_alike f g (reference.Element o i) none = refl
  no_link_alike f g (reference.Byte o i) none = refl

  last_alike : (m k : ℕ) (end : Reference) → ((q : Reference) → IsLink w end q → ⊥) → stored_through (suc m) end v w ≡ stored_through (suc k) end v w
  unfolding stored_through
  last_alike m k end none = no_link_alike (stored_through m) (stored_through k) end none

  pub arguments_ended : (n : ℕ) (r end : Reference) → ArgumentChain w n r end → n ≤ 64 → ((q : Reference) → IsLink w end q → ⊥) → stored_through 64 r v w ≡ stored_through 64 end v w
  arguments_ended n r end c le none =
      arguments_followed n 64 r end c le
      ∙ ap (λ k. stored_through k end v w) (omega (arith, le))
      ∙ last_alike (64 - n) 63 end none
      ∙ ap (λ k. stored_through k end v w) (omega arith)

pub ruleset at_most_64_references_are_followed = (chain_followed, chain_refused, name_followed_through, slot_followed_through, arguments_ended, arguments_refused)
