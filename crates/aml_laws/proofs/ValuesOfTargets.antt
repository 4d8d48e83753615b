-- Reading and storing at a target maintain that what a world holds fits a claim: only a slot that is open is read and stored to.
use Rattle.std.specs.Prelude.{◌≡◌, ◌<◌, ◌==◌, ℕ, zero, suc, List, [], ◌∷◌, Option, Some, None, true, Ok, Err, refl, slice_get, slice_set, slice_index_or}
use Rattle.std.proofs.Common.{arith, ap, ◌∙◌, sym, subst}
use Rattle.std.proofs.Math.Nat.{mod-lt}
use Rattle.std.specs.FinMap.{get, entries, entries_sorted, get-entries}
use Rattle.ar_space.specs.Change.{Change, ◌>>=◌}
use Rattle.aml_path.specs.declared.segment.Seg.{Seg}
use Rattle.aml_path.specs.Paths.{Name}
use Rattle.aml_objects.specs.Contents.{Content, Integer, String, Buffer, Other}
use Rattle.aml_objects.specs.declared.value.Value.{Value}
use Rattle.aml_objects.specs.declared.value.Value.TheVariants as value
use Rattle.aml_objects.specs.declared.value.Slot.{Slot}
use Rattle.aml_objects.specs.declared.value.Slot.TheVariants.{Local, Argument}
use Rattle.aml_objects.specs.declared.value.Reference.{Reference}
use Rattle.aml_objects.specs.declared.value.Reference.TheVariants as reference
use Rattle.aml_objects.specs.declared.object.Element.{Element}
use Rattle.aml_objects.specs.declared.object.Element.TheVariants as element
use Rattle.aml_objects.specs.declared.entry.Entry.{Entry}
use Rattle.aml_objects.specs.declared.entry.NamedObject.{NamedObject}
use Rattle.aml_objects.specs.declared.entry.NamedObject.TheVariants as object
use Rattle.aml_namespace.specs.Namespace.{Map, numbered}
use Rattle.aml_world.specs.declared.state.frame.Frame.{Frame}
use Rattle.aml_world.specs.declared.values.store_target.StoreTarget.{StoreTarget}
use Rattle.aml_world.specs.declared.values.store_target.StoreTarget.TheVariants as targets
use Rattle.aml_world.specs.declared.values.store_target.Holding.{Holding}
use Rattle.aml_world.specs.declared.values.store_target.Holding.TheVariants as holding
use Rattle.aml_world.specs.declared.values.store_target.Held.{Held}
use Rattle.aml_world.specs.declared.values.store_target.Held.TheVariants as held
use Rattle.aml_world.specs.declared.values.store_target.Stored.{Stored}
use Rattle.aml_world.specs.declared.values.store_target.Stored.TheVariants as store
use Rattle.aml_world.specs.declared.values.object_type.Referent.{Referent}
use Rattle.aml_world.specs.declared.values.object_type.Referent.TheVariants as referent
use Rattle.aml_world.specs.state.State.{State, on_objects}
use Rattle.aml_world.specs.state.Slots.{slot_in, slot_found, with_slot, frame_index}
use Rattle.aml_world.specs.state.Readings.{read_as}
use Rattle.aml_world.specs.values.StoreTargets.{or_ended, number_in_frame, unless_empty, unless_empty_element, where_found, holding_of, holding_in, held_at, latest_frame, frame_found, slot_held, own_slot, initialized, slot_read, held_in, name_read, held_in_slot, target_read, referent_of, or_gone, declaration, byte_followed, value_followed, referent_followed, declared_followed, slot_followed, element_named, name_followed, element_followed, held_followed, reference_followed, followed, most_references, slot_referent, referent_in, declared_referent, name_referent, target_referent, name_tested, frame_tested, byte_tested, tested, once, declared_once, value_once, slot_once, named_once, name_once, element_once, held_once, byte_once, dereferenced, frame_number, slot_reference, declared_number, name_reference, reference_of, slot_initialized, element_initialized, if_initialized, reference_if_found}
use Rattle.aml_world.specs.values.Stores.{with_frame, slot_put, copy_into_slot, copy_into_name, copy_into_element, copy_over, text_in, bytes_in, store_integer, store_text, store_bytes, store_over_value, store_over, first_byte, byte_of, byte_in, store_byte, copy_into_declared, store_over_slot, store_in_declared, store_to, store_in_frame, store_in_frame_numbered, store_at_reference, stored_through, store_in_slot, store_in_name, stored, copy_in_name, copied_to}
use Rattle.aml_laws.specs.Plain.{AreBytes}
use Rattle.aml_laws.proofs.IntegersOfOperators.{byte_fits_width}
use Rattle.aml_laws.proofs.DeclarationNumbers.{with_number_stands}
use Rattle.aml_laws.proofs.ReadingStepsGiveBytes.{Any}
use Rattle.aml_laws.proofs.ValuesOfObjects.{copied_maintains, byte_at_maintains, byte_at_maintains_byte, element_there_maintains, element_at_maintains, write_element_maintains, write_string_maintains, write_buffer_maintains, write_byte_maintains}
use Rattle.aml_laws.proofs.IntegersOfContents.{ContentFits, text_is_bytes, buffer_is_bytes}
use Rattle.std.proofs.lemmas.Bool.{eqb-true}
use Rattle.std.proofs.lemmas.Option.{get_or_from_slice_get}
use Rattle.std.proofs.lemmas.List.Quantifiers.{position-Some}
use Rattle.ar_space.specs.Outcome.{Outcome}
use Rattle.ar_space.specs.declared.refusal.Refusal.TheVariants as refusal
use Rattle.ar_space.specs.declared.refusal.NamespaceFault.TheVariants.{NotFound}
use Rattle.aml_objects.specs.Copies.{copied}
use Rattle.aml_laws.specs.AllWithin.{Each}
use Rattle.aml_laws.proofs.Claims.{Claim, IntegerFits, ReferenceFits, ValueFits, AreClaimedBytes, IsClaimedByte, DeclaredFits, ElementFits, NamedFits, FrameFits, LastOpen, latest_is_open}
use Rattle.aml_laws.proofs.StoreTargetsPreserve.{with_frame_numbers}
use Rattle.aml_laws.proofs.Invariants.{Maintained, Maintains, ok_fits, settled_maintained, give_maintains, stop_maintains, settle_maintains, then_maintains, then_maintained_at, each_at, each_set}
use Rattle.aml_laws.proofs.ValuesOfWorlds.{WorldWithin, FoundFits, on_objects_maintains, replaced_maintains, integer_in_maintains, entry_found_maintains, content_in_fits, own_content_fits, read_as_fits}

module _ (claim : Claim) where
  abbrev pub HoldingFits : Holding → Type 0
  HoldingFits (holding.Value v) = ValueFits claim v
  HoldingFits (holding.Field f) = DeclaredFits claim f
  HoldingFits holding.Nothing = Unit {0}

  abbrev pub HeldFits : Held → Type 0
  HeldFits (held.Value v) = ValueFits claim v
  HeldFits (held.Field f) = DeclaredFits claim f

  abbrev pub StoredFits : Stored → Type 0
  StoredFits store.Done = Unit {0}
  StoredFits (store.Field f) = DeclaredFits claim f

  abbrev pub ReferentFits : Referent → Type 0
  ReferentFits (referent.Value v) = ValueFits claim v
  ReferentFits (referent.Object t) = Unit {0}
  ReferentFits (referent.Field f) = DeclaredFits claim f
  ReferentFits (referent.Bytes n) = IntegerFits claim n

  -- a target, and a reference that may be there
  abbrev pub TargetFits : StoreTarget → Type 0
  TargetFits targets.Nowhere = Unit {0}
  TargetFits (targets.Slot slot) = Unit {0}
  TargetFits (targets.Name q) = Unit {0}
  TargetFits (targets.Refers r) = ReferenceFits claim r

  abbrev pub AnyReferenceFits : Option Reference → Type 0
  AnyReferenceFits None = Unit {0}
  AnyReferenceFits (Some r) = ReferenceFits claim r

  pub holding_of_fits : (o : NamedObject) → NamedFits claim o → HoldingFits (holding_of o)
  holding_of_fits (object.Data v) f = f
  holding_of_fits (object.FieldUnit u) f = f
  holding_of_fits (object.BufferField b) f = f
  holding_of_fits _ f = tt

  referent_of_fits : (o : NamedObject) → NamedFits claim o → ReferentFits (referent_of o)
  referent_of_fits (object.Data v) f = f
  referent_of_fits _ f = tt

  holding_in_fits : (o : Option Entry) (h : Holding) → ((e : Entry) → o ≡ Some e → NamedFits claim e.object) → holding_in o ≡ Ok h → HoldingFits h
  holding_in_fits None h f e = absurd (cc e)
  holding_in_fits (Some x) h f e = ok_fits HoldingFits _ h e (holding_of_fits x.object (f x refl))

  referent_in_fits : (o : Option Entry) (r : Referent) → ((e : Entry) → o ≡ Some e → NamedFits claim e.object) → referent_in o ≡ Ok r → ReferentFits r
  referent_in_fits None r f e = absurd (cc e)
  referent_in_fits (Some x) r f e = ok_fits ReferentFits _ r e (referent_of_fits x.object (f x refl))

  initialized_fits : (v u : Value) → ValueFits claim v → initialized v ≡ Ok u → ValueFits claim u
  initialized_fits value.Uninitialized u f e = absurd (cc e)
  initialized_fits (value.Integer n) u f e = ok_fits (ValueFits claim) _ u e f
  initialized_fits (value.String o) u f e = ok_fits (ValueFits claim) _ u e f
  initialized_fits (value.Buffer o) u f e = ok_fits (ValueFits claim) _ u e f
  initialized_fits (value.Package o) u f e = ok_fits (ValueFits claim) _ u e f
  initialized_fits (value.Reference r) u f e = ok_fits (ValueFits claim) _ u e f

  held_in_fits : (h : Holding) (k : Held) → HoldingFits h → held_in h ≡ Ok k → HeldFits k
  held_in_fits (holding.Value v) k f e = ok_fits HeldFits _ k e f
  held_in_fits (holding.Field x) k f e = ok_fits HeldFits _ k e f
  held_in_fits holding.Nothing k f e = absurd (cc e)

  or_gone_fits : (m : Map) (o : Option (List Seg × Entry)) (n : ℕ) (x : List Seg × Entry) → numbered n m ≡ o → ((path : List Seg) (e : Entry) → get m path ≡ Some e → NamedFits claim e.object) → or_gone o ≡ Ok x → NamedFits claim x.1.object
  unfolding numbered
  or_gone_fits m None n x is h e = absurd (cc e)
  or_gone_fits m (Some y) n x is h e = ok_fits (FoundFits claim) y x e (let r = with_number_stands n (entries m) y (entries_sorted m) is in h y.0 y.1 (get-entries m y.0 ∙ r.there))

  -- ---- slots

  slot_found_fits : (slot : Slot) (o : Option Frame) (v : Value) → ((f : Frame) → o ≡ Some f → ValueFits claim (slot_in f slot)) → slot_found slot o ≡ Ok v → ValueFits claim v
  slot_found_fits slot None v h e = absurd (cc e)
  slot_found_fits slot (Some f) v h e = ok_fits (ValueFits claim) _ v e (h f refl)

  index_set_fits : (vs : List Value) (i j : ℕ) (v u : Value) → ValueFits claim v → ValueFits claim (slice_index_or vs j u) → ValueFits claim (slice_index_or (slice_set vs i v) j u)
  index_set_fits [] i j v u g h = h
  index_set_fits (x ∷ vs) zero zero v u g h = g
  index_set_fits (x ∷ vs) zero (suc j) v u g h = h
  index_set_fits (x ∷ vs) (suc i) zero v u g h = h
  index_set_fits (x ∷ vs) (suc i) (suc j) v u g h = index_set_fits vs i j v u g h

  slot_set_fits : (f : Frame) (slot other : Slot) (v : Value) → ValueFits claim v → ValueFits claim (slot_in f other) → ValueFits claim (slot_in (with_slot f slot v) other)
  slot_set_fits f (Local i) (Local j) v g h = index_set_fits f.locals i j v _ g h
  slot_set_fits f (Local i) (Argument j) v g h = h
  slot_set_fits f (Argument i) (Local j) v g h = h
  slot_set_fits f (Argument i) (Argument j) v g h = index_set_fits f.arguments i j v _ g h

  with_slot_open : (f : Frame) (slot other : Slot) (v : Value) → claim.Open other (with_slot f slot v).number → claim.Open other f.number
  with_slot_open f (Local i) other v h = h
  with_slot_open f (Argument i) other v h = h

  with_slot_fits : (f : Frame) (slot : Slot) (v : Value) → claim.Open slot f.number → FrameFits claim f → ValueFits claim v → FrameFits claim (with_slot f slot v)
  with_slot_fits f slot v is_open h g = (λ other o. slot_set_fits f slot other v g (h.0 other (with_slot_open f slot other v o)), claim.written_stands f slot v is_open h.1)

  with_frame_fits : (o : Option Frame) (k : ℕ) (slot : Slot) (v : Value) (frames : List Frame) → slice_get frames k ≡ o → ((f : Frame) → slice_get frames k ≡ Some f → claim.Open slot f.number) → Each (FrameFits claim) frames → ValueFits claim v → Each (FrameFits claim) (with_frame o k slot v frames)
  with_frame_fits None k slot v frames at is_open h g = h
  with_frame_fits (Some f) k slot v frames at is_open h g = each_set (FrameFits claim) frames k _ h (with_slot_fits f slot v (is_open f at) (each_at (FrameFits claim) frames k f h at) g)

  -- a frame that is found by its number
  number_at : (n : ℕ) (frames : List Frame) (k : ℕ) (f : Frame) → frame_index n frames ≡ Some k → slice_get frames k ≡ Some f → f.number ≡ n
  number_at n frames k f is at = eqb-true f.number n (subst (λ (g : Frame). (g.number == n) ≡ true) (get_or_from_slice_get frames k f f at) (position-Some (λ (g : Frame). g.number == n) frames k f is).1)

module _ (S : Type 0) (claim : Claim) where
  pub held_at_maintains : (q : List Seg) → Maintains (WorldWithin S claim) (HoldingFits claim) (held_at q)
  unfolding held_at
  held_at_maintains q = record { maintains = λ w i. settled_maintained _ w i (λ h e. holding_in_fits claim (get w.names.map q) h (λ x. i.names q x) e) }

  -- ---- slots that are open

  abbrev OpenAt : Slot → ℕ → State S → Type 0
  OpenAt slot k w = (f : Frame) → slice_get w.frames k ≡ Some f → claim.Open slot f.number

  latest_frame_maintains : Maintains (WorldWithin S claim) Any latest_frame
  unfolding latest_frame
  latest_frame_maintains = record { maintains = λ w i. settled_maintained _ w i (λ h e. tt) }

  frame_found_maintains : (n : ℕ) → Maintains (WorldWithin S claim) Any (frame_found n)
  unfolding frame_found
  frame_found_maintains n = record { maintains = λ w i. settled_maintained _ w i (λ h e. tt) }

  or_ended_is : (o : Option ℕ) (k : ℕ) → or_ended o ≡ Ok k → o ≡ Some k
  or_ended_is None k e = absurd (cc e)
  or_ended_is (Some j) k e = let same : j ≡ k = cc e in ap Some same

  -- in the frame of the control method that runs, and in a frame by its number, where a slot of it is open
  in_latest_frame : {A : Type 0} {Fit : A → Type 0} (slot : Slot) (go : ℕ → Change (State S) A) → ((k : ℕ) (w : State S) → WorldWithin S claim w → OpenAt slot k w → Maintained (WorldWithin S claim) Fit (go k w)) → Maintains (WorldWithin S claim) Fit (latest_frame >>= go)
  unfolding latest_frame
  in_latest_frame slot go each = record { maintains = λ w i. then_maintained_at (OpenAt slot) latest_frame go w (latest_frame_maintains.maintains w i) (λ k e f at. latest_is_open claim w.frames k f i.latest (or_ended_is _ k e) at slot) (λ k v any j is_open. each k v j is_open) }

  in_open_frame : {A : Type 0} {Fit : A → Type 0} (slot : Slot) (n : ℕ) (go : ℕ → Change (State S) A) → claim.Open slot n → ((k : ℕ) (w : State S) → WorldWithin S claim w → OpenAt slot k w → Maintained (WorldWithin S claim) Fit (go k w)) → Maintains (WorldWithin S claim) Fit (frame_found n >>= go)
  unfolding frame_found
  in_open_frame slot n go is_open each = record { maintains = λ w i. then_maintained_at (OpenAt slot) (frame_found n) go w ((frame_found_maintains n).maintains w i) (λ k e f at. subst (claim.Open slot) (sym (number_at claim n w.frames k f (or_ended_is _ k e) at)) is_open) (λ k v any j there. each k v j there) }

  slot_held_maintained : (k : ℕ) (slot : Slot) (w : State S) → WorldWithin S claim w → OpenAt slot k w → Maintained (WorldWithin S claim) (ValueFits claim) (slot_held k slot w)
  unfolding slot_held
  slot_held_maintained k slot w i is_open = settled_maintained _ w i (λ v e. slot_found_fits claim slot (slice_get w.frames k) v (λ f at. (each_at (FrameFits claim) w.frames k f i.frames at).0 slot (is_open f at)) e)

  -- what a slot holds, and what is done with it where it is still open
  slot_held_then : {A : Type 0} {Fit : A → Type 0} (k : ℕ) (slot : Slot) (go : Value → Change (State S) A) → ((v : Value) (w : State S) → ValueFits claim v → WorldWithin S claim w → OpenAt slot k w → Maintained (WorldWithin S claim) Fit (go v w)) → (w : State S) → WorldWithin S claim w → OpenAt slot k w → Maintained (WorldWithin S claim) Fit ((slot_held k slot >>= go) w)
  unfolding slot_held
  slot_held_then k slot go each w i is_open = then_maintained_at (λ v u. OpenAt slot k u) (slot_held k slot) go w (slot_held_maintained k slot w i is_open) (λ v e. is_open) (λ v u f j there. each v u f j there)

  pub own_slot_maintains : (slot : Slot) → Maintains (WorldWithin S claim) (ValueFits claim) (own_slot slot)
  unfolding own_slot
  own_slot_maintains slot = in_latest_frame slot _ (λ k w i is_open. slot_held_maintained k slot w i is_open)

  pub slot_read_maintains : (slot : Slot) → Maintains (WorldWithin S claim) (ValueFits claim) (slot_read slot)
  unfolding slot_read
  slot_read_maintains slot = then_maintains _ _ (own_slot_maintains slot) (λ v f. settle_maintains _ (λ u e. initialized_fits claim v u f e))

  name_read_maintains : (q : List Seg) → Maintains (WorldWithin S claim) (HeldFits claim) (name_read q)
  unfolding name_read
  name_read_maintains q = then_maintains _ _ (held_at_maintains q) (λ h f. settle_maintains _ (λ k e. held_in_fits claim h k f e))

  held_in_slot_maintains : (slot : Slot) → Maintains (WorldWithin S claim) (HeldFits claim) (held_in_slot slot)
  unfolding held_in_slot
  held_in_slot_maintains slot = then_maintains _ _ (slot_read_maintains slot) (λ v f. give_maintains _ f)

  pub declaration_maintains : (n : ℕ) → Maintains (WorldWithin S claim) (FoundFits claim) (declaration n)
  unfolding declaration
  declaration_maintains n = record { maintains = λ w i. settled_maintained _ w i (λ x e. or_gone_fits claim w.names.map (numbered n w.names.map) n x refl i.names e) }

  pub tested_maintains : (r : Reference) → Maintains (WorldWithin S claim) Any (tested r)
  unfolding name_tested frame_tested byte_tested
  tested_maintains (reference.Name n) = then_maintains _ _ (declaration_maintains n) (λ e f. give_maintains _ tt)
  tested_maintains (reference.Slot slot n) = then_maintains _ _ (frame_found_maintains n) (λ k u. give_maintains _ tt)
  tested_maintains (reference.Element o i) = on_objects_maintains S claim _ (element_there_maintains claim o i)
  tested_maintains (reference.Byte o i) = then_maintains _ _ (on_objects_maintains S claim _ (byte_at_maintains claim o i)) (λ b u. give_maintains _ tt)

  once_fits : (n : ℕ) (o : NamedObject) → NamedFits claim o → HeldFits claim (once n o)
  once_fits n (object.Data v) f = f
  once_fits n (object.FieldUnit u) f = f
  once_fits n (object.BufferField b) f = f
  once_fits n _ f = tt

  pub named_once_fits : (n : ℕ) (o : NamedObject) → NamedFits claim o → HeldFits claim (named_once n o)
  named_once_fits n (object.Data v) f = read_as_fits S claim n v f
  named_once_fits n (object.FieldUnit u) f = f
  named_once_fits n (object.BufferField b) f = f
  named_once_fits n _ f = tt

  value_once_maintains : (v : Value) → ValueFits claim v → Maintains (WorldWithin S claim) (HeldFits claim) (value_once v)
  unfolding value_once
  value_once_maintains v f = then_maintains _ _ (settle_maintains {Fit = ValueFits claim} _ (λ u e. initialized_fits claim v u f e)) (λ x g. give_maintains _ g)

  element_once_maintains : (e : Element) → ElementFits claim e → Maintains (WorldWithin S claim) (HeldFits claim) (element_once e)
  unfolding name_once
  element_once_maintains (element.Value v) f = value_once_maintains v f
  element_once_maintains (element.Name n scope) f = then_maintains _ _ (entry_found_maintains S claim scope n) (λ e g. give_maintains _ (named_once_fits e.number e.object g))

  byte_once_maintains : (o i : ℕ) → Maintains (WorldWithin S claim) (HeldFits claim) (byte_once o i)
  unfolding byte_once
  byte_once_maintains o i = then_maintains _ _ (on_objects_maintains S claim _ (byte_at_maintains_byte claim o i)) (λ b l. give_maintains _ (λ m. byte_fits_width claim.width b (l m)))

  pub dereferenced_maintains : (r : Reference) → ReferenceFits claim r → Maintains (WorldWithin S claim) (HeldFits claim) (dereferenced r)
  unfolding declared_once slot_once held_once
  dereferenced_maintains (reference.Name n) fits = then_maintains _ _ (declaration_maintains n) (λ e f. give_maintains _ (once_fits n e.1.object f))
  dereferenced_maintains (reference.Slot slot n) fits = in_open_frame slot n _ fits (λ k u a there. slot_held_then k slot _ (λ v w f i is_open. (value_once_maintains v f).maintains w i) u a there)
  dereferenced_maintains (reference.Element o i) fits = then_maintains _ _ (on_objects_maintains S claim _ (element_at_maintains claim o i fits)) (λ e f. element_once_maintains e f)
  dereferenced_maintains (reference.Byte o i) fits = byte_once_maintains o i

  pub target_read_maintains : (at : StoreTarget) → TargetFits claim at → Maintains (WorldWithin S claim) (HeldFits claim) (target_read at)
  target_read_maintains targets.Nowhere fits = stop_maintains _
  target_read_maintains (targets.Slot slot) fits = held_in_slot_maintains slot
  target_read_maintains (targets.Name q) fits = name_read_maintains q
  target_read_maintains (targets.Refers r) fits = dereferenced_maintains r fits

  unchanged_maintains : {A : Type 0} (m : Change (State S) A) → ((w : State S) → (m w).1 ≡ w) → Maintains (WorldWithin S claim) Any m
  unchanged_maintains m h = record { maintains = λ w i. record { state = subst (WorldWithin S claim) (sym (h w)) i; gives = λ a e. tt } }

  number_in_frame_fits : (slot : Slot) (o : Option Frame) (n : ℕ) → ((f : Frame) → o ≡ Some f → claim.Open slot f.number) → number_in_frame o ≡ Ok n → claim.Open slot n
  number_in_frame_fits slot None n is_open e = absurd (cc e)
  number_in_frame_fits slot (Some f) n is_open e = ok_fits (claim.Open slot) f.number n e (is_open f refl)

  slot_reference_maintains : (slot : Slot) → Maintains (WorldWithin S claim) (ReferenceFits claim) (slot_reference slot)
  unfolding slot_reference frame_number
  slot_reference_maintains slot = in_latest_frame slot _ (λ k w i is_open. then_maintained_at {Fit = Any} (λ n v. claim.Open slot n) (frame_number k) _ w (settled_maintained _ w i (λ n e. tt)) (λ n e. number_in_frame_fits slot (slice_get w.frames k) n is_open e) (λ n v any j there. (give_maintains _ there).maintains v j))

  pub reference_of_maintains : (at : StoreTarget) → TargetFits claim at → Maintains (WorldWithin S claim) (ReferenceFits claim) (reference_of at)
  unfolding name_reference declared_number
  reference_of_maintains targets.Nowhere fits = stop_maintains _
  reference_of_maintains (targets.Slot slot) fits = slot_reference_maintains slot
  reference_of_maintains (targets.Name q) fits = then_maintains {Fit = Any} _ _ (unchanged_maintains _ (λ w. refl)) (λ n v. give_maintains _ tt)
  reference_of_maintains (targets.Refers r) fits = give_maintains _ fits

  unless_empty_fits : (v : Value) (r : Reference) → ReferenceFits claim r → AnyReferenceFits claim (unless_empty v r)
  unless_empty_fits value.Uninitialized r fits = tt
  unless_empty_fits (value.Integer n) r fits = fits
  unless_empty_fits (value.String o) r fits = fits
  unless_empty_fits (value.Buffer o) r fits = fits
  unless_empty_fits (value.Package o) r fits = fits
  unless_empty_fits (value.Reference x) r fits = fits

  unless_empty_element_fits : (e : Element) (r : Reference) → ReferenceFits claim r → AnyReferenceFits claim (unless_empty_element e r)
  unless_empty_element_fits (element.Value v) r fits = unless_empty_fits v r fits
  unless_empty_element_fits (element.Name n scope) r fits = fits

  pub if_initialized_maintains : (r : Reference) → ReferenceFits claim r → Maintains (WorldWithin S claim) (AnyReferenceFits claim) (if_initialized r)
  unfolding slot_initialized element_initialized
  if_initialized_maintains (reference.Name n) fits = give_maintains _ tt
  if_initialized_maintains (reference.Slot slot n) fits = in_open_frame slot n _ fits (λ k u a there. slot_held_then k slot _ (λ v w f i is_open. (give_maintains _ (unless_empty_fits v (reference.Slot slot n) fits)).maintains w i) u a there)
  if_initialized_maintains (reference.Element o j) fits = then_maintains _ _ (on_objects_maintains S claim _ (element_at_maintains claim o j fits)) (λ e f. give_maintains _ (unless_empty_element_fits e (reference.Element o j) fits))
  if_initialized_maintains (reference.Byte o j) fits = give_maintains _ fits

  where_found_fits : (x : Outcome Entry) (o : Option Reference) → where_found x ≡ Ok o → AnyReferenceFits claim o
  where_found_fits (Ok e) o is = ok_fits (AnyReferenceFits claim) _ o is tt
  where_found_fits (Err (refusal.Namespace NotFound)) o is = ok_fits (AnyReferenceFits claim) _ o is tt
  where_found_fits (Err x) o is = absurd (cc is)

  pub reference_if_found_maintains : (scope : List Seg) (n : Name) → Maintains (WorldWithin S claim) (AnyReferenceFits claim) (reference_if_found scope n)
  unfolding reference_if_found
  reference_if_found_maintains scope n = record { maintains = λ w i. settled_maintained _ w i (λ o e. where_found_fits _ o e) }

  byte_followed_maintains : (o i : ℕ) → Maintains (WorldWithin S claim) (ReferentFits claim) (byte_followed o i)
  unfolding byte_followed
  byte_followed_maintains o i = then_maintains _ _ (on_objects_maintains S claim _ (byte_at_maintains claim o i)) (λ b u. give_maintains _ tt)

  module _ (follow : Reference → Change (State S) Referent) (follows : (r : Reference) → ReferenceFits claim r → Maintains (WorldWithin S claim) (ReferentFits claim) (follow r)) where
    value_followed_maintains : (v : Value) → ValueFits claim v → Maintains (WorldWithin S claim) (ReferentFits claim) (value_followed follow v)
    value_followed_maintains value.Uninitialized f = give_maintains _ tt
    value_followed_maintains (value.Integer n) f = give_maintains _ f
    value_followed_maintains (value.String o) f = give_maintains _ f
    value_followed_maintains (value.Buffer o) f = give_maintains _ f
    value_followed_maintains (value.Package o) f = give_maintains _ f
    value_followed_maintains (value.Reference r) f = follows r f

    referent_followed_maintains : (r : Referent) → ReferentFits claim r → Maintains (WorldWithin S claim) (ReferentFits claim) (referent_followed follow r)
    referent_followed_maintains (referent.Value v) f = value_followed_maintains v f
    referent_followed_maintains (referent.Object t) f = give_maintains _ tt
    referent_followed_maintains (referent.Field x) f = give_maintains _ f
    referent_followed_maintains (referent.Bytes n) f = give_maintains _ f

    declared_followed_maintains : (n : ℕ) → Maintains (WorldWithin S claim) (ReferentFits claim) (declared_followed follow n)
    unfolding declared_followed
    declared_followed_maintains n = then_maintains _ _ (declaration_maintains n) (λ e f. referent_followed_maintains _ (referent_of_fits claim e.1.object f))

    slot_followed_maintains : (n : ℕ) (slot : Slot) → claim.Open slot n → Maintains (WorldWithin S claim) (ReferentFits claim) (slot_followed follow n slot)
    unfolding slot_followed
    slot_followed_maintains n slot fits = in_open_frame slot n _ fits (λ k u a there. slot_held_then k slot _ (λ v w f i is_open. (value_followed_maintains v f).maintains w i) u a there)

    element_named_maintains : (n : ℕ) (o : NamedObject) → NamedFits claim o → Maintains (WorldWithin S claim) (ReferentFits claim) (element_named follow n o)
    element_named_maintains n (object.Data v) f = value_followed_maintains (read_as n v) (read_as_fits S claim n v f)
    element_named_maintains n (object.FieldUnit u) f = give_maintains _ f
    element_named_maintains n (object.BufferField b) f = give_maintains _ f
    element_named_maintains n _ f = follows (reference.Name n) tt

    element_followed_maintains : (e : Element) → ElementFits claim e → Maintains (WorldWithin S claim) (ReferentFits claim) (element_followed follow e)
    unfolding name_followed
    element_followed_maintains (element.Value v) f = value_followed_maintains v f
    element_followed_maintains (element.Name n scope) f = then_maintains _ _ (entry_found_maintains S claim scope n) (λ e g. element_named_maintains e.number e.object g)

    reference_followed_maintains : (r : Reference) → ReferenceFits claim r → Maintains (WorldWithin S claim) (ReferentFits claim) (reference_followed follow r)
    unfolding held_followed
    reference_followed_maintains (reference.Name n) fits = declared_followed_maintains n
    reference_followed_maintains (reference.Slot slot n) fits = slot_followed_maintains n slot fits
    reference_followed_maintains (reference.Element o i) fits = then_maintains _ _ (on_objects_maintains S claim _ (element_at_maintains claim o i fits)) (λ e f. element_followed_maintains e f)
    reference_followed_maintains (reference.Byte o i) fits = byte_followed_maintains o i

  followed_maintains : (n : ℕ) (r : Reference) → ReferenceFits claim r → Maintains (WorldWithin S claim) (ReferentFits claim) (followed n r)
  unfolding followed
  followed_maintains zero r fits = stop_maintains _
  followed_maintains (suc n) r fits = reference_followed_maintains (followed n) (followed_maintains n) r fits

  declared_referent_maintains : (q : List Seg) → Maintains (WorldWithin S claim) (ReferentFits claim) (declared_referent q)
  unfolding declared_referent
  declared_referent_maintains q = record { maintains = λ w i. settled_maintained _ w i (λ r e. referent_in_fits claim (get w.names.map q) r (λ x. i.names q x) e) }

  pub target_referent_maintains : (at : StoreTarget) → TargetFits claim at → Maintains (WorldWithin S claim) (ReferentFits claim) (target_referent at)
  unfolding slot_referent name_referent
  target_referent_maintains targets.Nowhere fits = give_maintains _ tt
  target_referent_maintains (targets.Slot slot) fits = then_maintains _ _ (own_slot_maintains slot) (λ v f. value_followed_maintains _ (followed_maintains most_references) v f)
  target_referent_maintains (targets.Name q) fits = then_maintains _ _ (declared_referent_maintains q) (λ r f. referent_followed_maintains _ (followed_maintains most_references) r f)
  target_referent_maintains (targets.Refers r) fits = followed_maintains most_references r fits

  pub value_referent_maintains : (v : Value) → ValueFits claim v → Maintains (WorldWithin S claim) (ReferentFits claim) (value_followed (followed most_references) v)
  value_referent_maintains v f = value_followed_maintains _ (followed_maintains most_references) v f

  -- ---- stores

  slot_put_maintained : (k : ℕ) (slot : Slot) (v : Value) (w : State S) → ValueFits claim v → WorldWithin S claim w → OpenAt slot k w → Maintained (WorldWithin S claim) Any (slot_put k slot v w)
  unfolding slot_put
  slot_put_maintained k slot v w f i is_open =
      settled_maintained _ _ (record { wide = i.wide; names = i.names; objects = i.objects; frames = with_frame_fits claim (slice_get w.frames k) k slot v w.frames refl is_open i.frames f; next = i.next; latest = subst (LastOpen claim) (sym (with_frame_numbers (slice_get w.frames k) k slot v w.frames refl)) i.latest }) (λ a e. tt)

  copy_into_slot_maintained : (k : ℕ) (slot : Slot) (v : Value) (w : State S) → ValueFits claim v → WorldWithin S claim w → OpenAt slot k w → Maintained (WorldWithin S claim) (StoredFits claim) (copy_into_slot k slot v w)
  unfolding copy_into_slot on_objects
  copy_into_slot_maintained k slot v w f i is_open =
      then_maintained_at (λ c u. OpenAt slot k u) (on_objects (copied v)) _ w ((on_objects_maintains S claim _ (copied_maintains claim v f)).maintains w i) (λ c e. is_open) (λ c u g j there. then_maintained_at (λ put t. Unit {0}) (slot_put k slot c) _ u (slot_put_maintained k slot c u g j there) (λ put e. tt) (λ put t any a known. (give_maintains _ tt).maintains t a))

  pub copy_into_name_maintains : (q : List Seg) (v : Value) → ValueFits claim v → Maintains (WorldWithin S claim) (StoredFits claim) (copy_into_name q v)
  unfolding copy_into_name
  copy_into_name_maintains q v f = then_maintains _ _ (on_objects_maintains S claim _ (copied_maintains claim v f)) (λ c g. then_maintains _ _ (replaced_maintains S claim q _ g) (λ put u. give_maintains _ tt))

  copy_into_element_maintains : (o i : ℕ) (v : Value) → claim.Seen o → ValueFits claim v → Maintains (WorldWithin S claim) (StoredFits claim) (copy_into_element o i v)
  unfolding copy_into_element
  copy_into_element_maintains o i v seen f =
      then_maintains _ _ (on_objects_maintains S claim _ (element_there_maintains claim o i)) (λ there x. then_maintains _ _ (on_objects_maintains S claim _ (copied_maintains claim v f)) (λ c g. then_maintains _ _ (on_objects_maintains S claim _ (write_element_maintains claim o i (element.Value c) seen g)) (λ put u. give_maintains _ tt)))

  copy_over_maintains : (h : Holding) (q : List Seg) (v : Value) → HoldingFits claim h → ValueFits claim v → Maintains (WorldWithin S claim) (StoredFits claim) (copy_over h q v)
  copy_over_maintains (holding.Value old) q v h f = copy_into_name_maintains q v f
  copy_over_maintains (holding.Field x) q v h f = give_maintains _ h
  copy_over_maintains holding.Nothing q v h f = stop_maintains _

  text_in_maintains : (v : Value) → ValueFits claim v → Maintains (WorldWithin S claim) (AreClaimedBytes claim) (text_in v)
  unfolding text_in
  text_in_maintains v f = record { maintains = λ w i. settled_maintained _ w i (λ bs e m. text_is_bytes w.width _ bs (own_content_fits S claim w v i f m) e) }

  pub bytes_in_maintains : (v : Value) → ValueFits claim v → Maintains (WorldWithin S claim) (AreClaimedBytes claim) (bytes_in v)
  unfolding bytes_in
  bytes_in_maintains v f = record { maintains = λ w i. settled_maintained _ w i (λ bs e m. buffer_is_bytes w.width _ bs (own_content_fits S claim w v i f m) e) }

  pub store_over_value_maintains : (old : Value) (q : List Seg) (v : Value) → ValueFits claim old → ValueFits claim v → Maintains (WorldWithin S claim) (StoredFits claim) (store_over_value old q v)
  unfolding store_integer store_text store_bytes
  store_over_value_maintains (value.Integer n) q v h f = then_maintains _ _ (integer_in_maintains S claim v f) (λ m g. then_maintains _ _ (replaced_maintains S claim q _ g) (λ put u. give_maintains _ tt))
  store_over_value_maintains (value.String o) q v h f = then_maintains _ _ (text_in_maintains v f) (λ bs k. then_maintains _ _ (on_objects_maintains S claim _ (write_string_maintains claim o bs h k)) (λ put u. give_maintains _ tt))
  store_over_value_maintains (value.Buffer o) q v h f = then_maintains _ _ (bytes_in_maintains v f) (λ bs k. then_maintains _ _ (on_objects_maintains S claim _ (write_buffer_maintains claim o bs h k)) (λ put u. give_maintains _ tt))
  store_over_value_maintains (value.Package o) q (value.Package p) h f = copy_into_name_maintains q _ f
  store_over_value_maintains (value.Package o) q value.Uninitialized h f = stop_maintains _
  store_over_value_maintains (value.Package o) q (value.Integer n) h f = stop_maintains _
  store_over_value_maintains (value.Package o) q (value.String p) h f = stop_maintains _
  store_over_value_maintains (value.Package o) q (value.Buffer p) h f = stop_maintains _
  store_over_value_maintains (value.Package o) q (value.Reference r) h f = stop_maintains _
  store_over_value_maintains (value.Reference r) q v h f = copy_into_name_maintains q v f
  store_over_value_maintains value.Uninitialized q v h f = copy_into_name_maintains q v f

  store_over_maintains : (h : Holding) (q : List Seg) (v : Value) → HoldingFits claim h → ValueFits claim v → Maintains (WorldWithin S claim) (StoredFits claim) (store_over h q v)
  store_over_maintains (holding.Value old) q v h f = store_over_value_maintains old q v h f
  store_over_maintains (holding.Field x) q v h f = give_maintains _ h
  store_over_maintains holding.Nothing q v h f = stop_maintains _

  abbrev IsByte : ℕ → Type 0
  IsByte b = b < 256

  first_byte_fits : (bs : List ℕ) (b : ℕ) → AreBytes bs → first_byte bs ≡ Ok b → IsByte b
  first_byte_fits [] b h e = absurd (cc e)
  first_byte_fits (c ∷ bs) b h e = ok_fits IsByte c b e (h 0)

  byte_of_fits : (c : Content) (b : ℕ) → ContentFits claim.width c → byte_of c ≡ Ok b → IsByte b
  byte_of_fits (Integer n) b h e = ok_fits IsByte _ b e (mod-lt n (omega arith))
  byte_of_fits (String bs) b h e = first_byte_fits bs b h e
  byte_of_fits (Buffer bs) b h e = first_byte_fits bs b h e
  byte_of_fits Other b h e = absurd (cc e)

  store_byte_maintains : (o i : ℕ) (v : Value) → claim.Seen o → ValueFits claim v → Maintains (WorldWithin S claim) (StoredFits claim) (store_byte o i v)
  unfolding store_byte byte_in
  store_byte_maintains o i v seen f =
      then_maintains _ _ (on_objects_maintains S claim _ (byte_at_maintains claim o i)) (λ old x. then_maintains {Fit = IsClaimedByte claim} _ _ (record { maintains = λ w s. settled_maintained _ w s (λ b e m. byte_of_fits _ b (content_in_fits S claim w v s f m) e) }) (λ b l. then_maintains _ _ (on_objects_maintains S claim _ (write_byte_maintains claim o i b seen l)) (λ put u. give_maintains _ tt)))

  module _ (through : Reference → Value → Change (State S) Stored) (goes : (r : Reference) (v : Value) → ReferenceFits claim r → ValueFits claim v → Maintains (WorldWithin S claim) (StoredFits claim) (through r v)) where
    store_over_slot_maintained : (k : ℕ) (slot : Slot) (old v : Value) (w : State S) → ValueFits claim old → ValueFits claim v → WorldWithin S claim w → OpenAt slot k w → Maintained (WorldWithin S claim) (StoredFits claim) (store_over_slot through k slot old v w)
    store_over_slot_maintained k (Local i) old v w g f a is_open = copy_into_slot_maintained k _ v w f a is_open
    store_over_slot_maintained k (Argument i) (value.Reference r) v w g f a is_open = (goes r v g f).maintains w a
    store_over_slot_maintained k (Argument i) value.Uninitialized v w g f a is_open = copy_into_slot_maintained k _ v w f a is_open
    store_over_slot_maintained k (Argument i) (value.Integer n) v w g f a is_open = copy_into_slot_maintained k _ v w f a is_open
    store_over_slot_maintained k (Argument i) (value.String o) v w g f a is_open = copy_into_slot_maintained k _ v w f a is_open
    store_over_slot_maintained k (Argument i) (value.Buffer o) v w g f a is_open = copy_into_slot_maintained k _ v w f a is_open
    store_over_slot_maintained k (Argument i) (value.Package o) v w g f a is_open = copy_into_slot_maintained k _ v w f a is_open

    store_in_frame_maintained : (k : ℕ) (slot : Slot) (v : Value) (w : State S) → ValueFits claim v → WorldWithin S claim w → OpenAt slot k w → Maintained (WorldWithin S claim) (StoredFits claim) (store_in_frame through k slot v w)
    unfolding store_in_frame
    store_in_frame_maintained k slot v w f i is_open = slot_held_then k slot _ (λ old u g j there. store_over_slot_maintained k slot old v u g f j there) w i is_open

    store_in_numbered_maintains : (n : ℕ) (slot : Slot) (v : Value) → claim.Open slot n → ValueFits claim v → Maintains (WorldWithin S claim) (StoredFits claim) (store_in_frame_numbered through n slot v)
    unfolding store_in_frame_numbered
    store_in_numbered_maintains n slot v is_open f = in_open_frame slot n _ is_open (λ k w i there. store_in_frame_maintained k slot v w f i there)

    store_at_reference_maintains : (r : Reference) (v : Value) → ReferenceFits claim r → ValueFits claim v → Maintains (WorldWithin S claim) (StoredFits claim) (store_at_reference through r v)
    unfolding copy_into_declared
    store_at_reference_maintains (reference.Name n) v fits f = then_maintains _ _ (declaration_maintains n) (λ e g. copy_over_maintains _ e.0 v (holding_of_fits claim e.1.object g) f)
    store_at_reference_maintains (reference.Slot slot n) v fits f = store_in_numbered_maintains n slot v fits f
    store_at_reference_maintains (reference.Element o i) v fits f = copy_into_element_maintains o i v fits f
    store_at_reference_maintains (reference.Byte o i) v fits f = store_byte_maintains o i v fits f

  stored_through_maintains : (n : ℕ) (r : Reference) (v : Value) → ReferenceFits claim r → ValueFits claim v → Maintains (WorldWithin S claim) (StoredFits claim) (stored_through n r v)
  unfolding stored_through
  stored_through_maintains zero r v fits f = stop_maintains _
  stored_through_maintains (suc n) r v fits f = store_at_reference_maintains (stored_through n) (stored_through_maintains n) r v fits f

  pub store_in_slot_maintains : (slot : Slot) (v : Value) → ValueFits claim v → Maintains (WorldWithin S claim) (StoredFits claim) (store_in_slot slot v)
  unfolding store_in_slot
  store_in_slot_maintains slot v f = in_latest_frame slot _ (λ k w i is_open. store_in_frame_maintained _ (stored_through_maintains most_references) k slot v w f i is_open)

  pub store_to_maintains : (r : Reference) (v : Value) → ReferenceFits claim r → ValueFits claim v → Maintains (WorldWithin S claim) (StoredFits claim) (store_to r v)
  unfolding store_in_declared
  store_to_maintains (reference.Name n) v fits f = then_maintains _ _ (declaration_maintains n) (λ e g. store_over_maintains _ e.0 v (holding_of_fits claim e.1.object g) f)
  store_to_maintains (reference.Slot slot n) v fits f = store_in_numbered_maintains _ (stored_through_maintains most_references) n slot v fits f
  store_to_maintains (reference.Element o i) v fits f = copy_into_element_maintains o i v fits f
  store_to_maintains (reference.Byte o i) v fits f = store_byte_maintains o i v fits f

  pub stored_maintains : (at : StoreTarget) (v : Value) → TargetFits claim at → ValueFits claim v → Maintains (WorldWithin S claim) (StoredFits claim) (stored at v)
  unfolding store_in_name
  stored_maintains targets.Nowhere v fits f = give_maintains _ tt
  stored_maintains (targets.Slot slot) v fits f = store_in_slot_maintains slot v f
  stored_maintains (targets.Name q) v fits f = then_maintains _ _ (held_at_maintains q) (λ h g. store_over_maintains h q v g f)
  stored_maintains (targets.Refers r) v fits f = store_to_maintains r v fits f

  pub copied_to_maintains : (at : StoreTarget) (v : Value) → TargetFits claim at → ValueFits claim v → Maintains (WorldWithin S claim) (StoredFits claim) (copied_to at v)
  unfolding copy_in_name
  copied_to_maintains targets.Nowhere v fits f = give_maintains _ tt
  copied_to_maintains (targets.Slot slot) v fits f = store_in_slot_maintains slot v f
  copied_to_maintains (targets.Name q) v fits f = then_maintains _ _ (held_at_maintains q) (λ h g. copy_over_maintains h q v g f)
  copied_to_maintains (targets.Refers r) v fits f = stored_through_maintains most_references r v fits f
