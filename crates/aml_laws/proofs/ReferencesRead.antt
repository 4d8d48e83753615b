-- DerefOf reads what the reference that its operand gives refers to, and references that come to no end are refused.
use Rattle.std.specs.Prelude.{◌≡◌, ◌≢◌, ◌⊎◌, ◌≤◌, ◌<◌, ◌∷◌, ℕ, zero, suc, List, length, take, slice_get, Option, Some, None, Ok, Err, refl}
use Rattle.std.proofs.Common.{arith, inl, inr, ap, subst, ◌∙◌}
use Rattle.std.proofs.lemmas.Option.{slice_get_past}
use Rattle.ar_space.specs.declared.refusal.Refusal.{Refusal}
use Rattle.ar_space.specs.declared.refusal.Refusal.TheVariants as refusal
use Rattle.ar_space.specs.declared.refusal.EvaluationFault.TheVariants.{DeadReference, NoValue}
use Rattle.ar_space.specs.declared.refusal.ValueFault.TheVariants.{WrongType}
use Rattle.ar_space.specs.Accesses.{Accesses}
use Rattle.ar_space.specs.Outcome.{Outcome}
use Rattle.ar_space.specs.Change.{Change, give, stop, settle, go_on, ◌>>=◌}
use Rattle.aml_path.specs.declared.segment.Seg.{Seg}
use Rattle.aml_path.specs.Paths.{Name}
use Rattle.aml_grammar.specs.declared.opcode.Opcode.TheVariants as opcodes
use Rattle.aml_grammar.specs.Tree.{Tree}
use Rattle.aml_objects.specs.Fields.{bits_of_field}
use Rattle.aml_objects.specs.Objects.{element_at, byte_at, element_in, byte_in, or_dead}
use Rattle.aml_objects.specs.declared.entry.Entry.{Entry}
use Rattle.aml_objects.specs.declared.entry.Field.{Field}
use Rattle.aml_objects.specs.declared.entry.NamedObject.{NamedObject}
use Rattle.aml_objects.specs.declared.object.Element.{Element}
use Rattle.aml_objects.specs.declared.object.Object.{Object}
use Rattle.aml_objects.specs.declared.object.Object.TheVariants as object
use Rattle.aml_objects.specs.declared.value.Reference.{Reference}
use Rattle.aml_objects.specs.declared.value.Reference.TheVariants as reference
use Rattle.aml_objects.specs.declared.value.Value.{Value}
use Rattle.aml_objects.specs.declared.value.Value.TheVariants as value
use Rattle.aml_convert.specs.Integers.{bits_of, bytes_of}
use Rattle.aml_namespace.specs.Namespace.{numbered}
use Rattle.aml_namespace.specs.Search.{found}
use Rattle.aml_world.specs.declared.values.object_type.Referent.{Referent}
use Rattle.aml_world.specs.declared.values.object_type.Referent.TheVariants as referent
use Rattle.aml_world.specs.declared.values.store_target.Held.TheVariants as held
use Rattle.aml_world.specs.declared.values.store_target.StoreTarget.TheVariants as targets
use Rattle.aml_world.specs.state.State.{State, on_objects}
use Rattle.aml_world.specs.state.Run.{lift}
use Rattle.aml_world.specs.state.Readings.{entry_found}
use Rattle.aml_world.specs.fields.Regions.{value_of_bits}
use Rattle.aml_world.specs.fields.Fields.{field_value}
use Rattle.aml_world.specs.values.StoreTargets.{reference_in, frame_found, slot_held, declaration, once, declared_once, value_once, slot_once, held_once, byte_once, dereferenced, byte_followed, element_named, declared_followed, slot_followed, name_followed, held_followed, reference_followed, followed, target_referent}
use Rattle.aml_meaning.specs.declared.flow.Flow.TheVariants as flow
use Rattle.aml_meaning.specs.Tasks.{task, operand_value, value_at}
use Rattle.aml_meaning.specs.OperatorTerms.{dereference_rule}
use Rattle.aml_meaning.specs.Evaluation.{rule}
use Rattle.aml_meaning.specs.Meaning.{meaning}
use Rattle.aml_laws.specs.OperatorTerms.{of_one, GivesValue, Gives, IsRefused}
use Rattle.aml_laws.specs.JoinedTerms.{with_object, Fits}
use Rattle.aml_laws.specs.IntegersOfValues.{lowest_first}
use Rattle.aml_laws.specs.FieldNames.{bits_read_at}
use Rattle.aml_laws.specs.StoredParts.{HoldsNothing, scope, device, processor, power_resource, thermal_zone, method, region, mutex, event}
use Rattle.aml_laws.specs.NamesInPackages.{HoldsName}
use Rattle.aml_laws.specs.Dereferenced.{Holds, by_name, by_slot, by_element, by_byte_of_string, by_byte_of_buffer, IsEmpty, empty_slot, empty_element, IsDead, name_gone, call_ended, no_element, no_byte, IsReferredTo, holds_reference, holds_nothing, IsNext, by_value, by_found_name, Leads, nowhere, further, EndsUnfound}
use Rattle.aml_laws.proofs.Counting.{initialized_is}
use Rattle.aml_laws.proofs.FieldNamesUsed.{number_of_bits, buffer_of_bits}
use Rattle.aml_laws.proofs.PartsIndexed.{element_read, string_byte_read, buffer_byte_read}
use Rattle.aml_laws.proofs.TreesCost.{term_begins}

-- ---- what is read of a reference

nothing_once : (n : ℕ) (o : NamedObject) → HoldsNothing o → once n o ≡ held.Value (value.Reference (reference.Name n))
nothing_once n _ scope = refl
nothing_once n _ device = refl
nothing_once n _ processor = refl
nothing_once n _ power_resource = refl
nothing_once n _ thermal_zone = refl
nothing_once n _ (method m) = refl
nothing_once n _ (region r) = refl
nothing_once n _ (mutex count) = refl
nothing_once n _ (event count) = refl

no_element_in : (i : ℕ) (x : Option Object) → ((es : List Element) → x ≡ Some (object.Package es) → length es ≤ i) → element_in i x ≡ Err (refusal.Evaluation DeadReference)
no_element_in i None past = refl
no_element_in i (Some (object.String bytes)) past = refl
no_element_in i (Some (object.Buffer bytes)) past = refl
no_element_in i (Some (object.Package es)) past = ap or_dead (slice_get_past es i (past es refl))

pub no_byte_in : (i : ℕ) (x : Option Object) → ((bytes : List ℕ) → (x ≡ Some (object.String bytes)) ⊎ (x ≡ Some (object.Buffer bytes)) → length bytes ≤ i) → byte_in i x ≡ Err (refusal.Evaluation DeadReference)
no_byte_in i None past = refl
no_byte_in i (Some (object.String bytes)) past = ap or_dead (slice_get_past bytes i (past bytes (inl refl)))
no_byte_in i (Some (object.Buffer bytes)) past = ap or_dead (slice_get_past bytes i (past bytes (inr refl)))
no_byte_in i (Some (object.Package es)) past = refl

module _ {S : Type 0} (w : State S) where
  held_is_read : (r : Reference) (v : Value) → Holds w r v → v ≢ value.Uninitialized → dereferenced r w ≡ (Ok (held.Value v), w)
  unfolding declared_once declaration slot_once frame_found slot_held value_once settle give go_on ◌>>=◌
  held_is_read r v (by_name n path e u stands is) some = rw (stands, is) refl
  held_is_read r v (by_slot slot n k f u at stands is) some = rw (at, stands, is, initialized_is v some) refl
  held_is_read r v (by_element o i es u at is) some = element_read w o i es u at is some
  held_is_read r v (by_byte_of_string o i b bytes at is) some = string_byte_read w o i b bytes at is
  held_is_read r v (by_byte_of_buffer o i b bytes at is) some = buffer_byte_read w o i b bytes at is

  nothing_is_read : (n : ℕ) (path : List Seg) (e : Entry) → numbered n w.names.map ≡ Some (path, e) → HoldsNothing e.object → dereferenced (reference.Name n) w ≡ (Ok (held.Value (value.Reference (reference.Name n))), w)
  unfolding declared_once declaration give go_on ◌>>=◌
  nothing_is_read n path e stands none = rw (stands, nothing_once n e.object none) refl

  empty_is_refused : (r : Reference) → IsEmpty w r → dereferenced r w ≡ (Err (refusal.Evaluation NoValue), w)
  unfolding slot_once frame_found slot_held held_once value_once on_objects element_at settle give go_on ◌>>=◌
  empty_is_refused r (empty_slot slot n k f at stands is) = rw (at, stands, is) refl
  empty_is_refused r (empty_element o i es at is) = rw (at, is) refl

  dead_is_refused : (r : Reference) → IsDead w r → dereferenced r w ≡ (Err (refusal.Evaluation DeadReference), w)
  unfolding declared_once declaration slot_once frame_found held_once byte_once on_objects element_at byte_at give go_on ◌>>=◌
  dead_is_refused r (name_gone n none) = rw none refl
  dead_is_refused r (call_ended slot n none) = rw none refl
  dead_is_refused r (no_element o i past) = rw (no_element_in i (slice_get w.objects o) past) refl
  dead_is_refused r (no_byte o i past) = rw (no_byte_in i (slice_get w.objects o) past) refl

-- ---- DerefOf

-- what is no reference
not_a_reference : (v : Value) → ((r : Reference) → v ≢ value.Reference r) → reference_in v ≡ Err (refusal.Value WrongType)
not_a_reference value.Uninitialized apart = refl
not_a_reference (value.Integer n) apart = refl
not_a_reference (value.String o) apart = refl
not_a_reference (value.Buffer o) apart = refl
not_a_reference (value.Package o) apart = refl
not_a_reference (value.Reference r) apart = absurd (apart r refl)

module _ {S : Type 0} (accesses : Accesses S) (scope : List Seg) (depth : ℕ) (x : Tree) (w : State S) (steps : ℕ) (after : State S × ℕ) where
  begins : meaning accesses (task scope depth (of_one opcodes.DerefOf x)) (w, suc steps) ≡ rule accesses (meaning accesses) (task scope depth (of_one opcodes.DerefOf x)) (w, steps)
  begins = (term_begins accesses (task scope depth (of_one opcodes.DerefOf x))).paid w steps

  refuses_so : (v : Value) → GivesValue accesses scope depth x (w, steps) v after → reference_in v ≡ Err (refusal.Value WrongType) → rule accesses (meaning accesses) (task scope depth (of_one opcodes.DerefOf x)) (w, steps) ≡ (Err (refusal.Value WrongType), after)
  unfolding rule dereference_rule value_at operand_value settle lift give go_on ◌>>=◌
  refuses_so v gives none = rw (gives, none) refl

  pub no_reference_is_read : (v : Value) → GivesValue accesses scope depth x (w, steps) v after → ((r : Reference) → v ≢ value.Reference r) → IsRefused accesses scope depth (of_one opcodes.DerefOf x) (w, suc steps) (refusal.Value WrongType) after
  no_reference_is_read v gives apart = begins ∙ refuses_so v gives (not_a_reference v apart)

module _ {S : Type 0} (accesses : Accesses S) (scope : List Seg) (depth : ℕ) (x : Tree) (w : State S) (steps : ℕ) (r : Reference) (after : State S × ℕ) (gives : GivesValue accesses scope depth x (w, steps) (value.Reference r) after) where
  gives_so : (v : Value) → dereferenced r after.0 ≡ (Ok (held.Value v), after.0) → rule accesses (meaning accesses) (task scope depth (of_one opcodes.DerefOf x)) (w, steps) ≡ (Ok (flow.Value v), after)
  unfolding rule dereference_rule value_at operand_value settle lift give go_on ◌>>=◌
  gives_so v is = rw (gives, is) refl

  stops_so : (e : Refusal) → dereferenced r after.0 ≡ (Err e, after.0) → rule accesses (meaning accesses) (task scope depth (of_one opcodes.DerefOf x)) (w, steps) ≡ (Err e, after)
  unfolding rule dereference_rule value_at operand_value settle lift give go_on ◌>>=◌
  stops_so e is = rw (gives, is) refl

  reads_so : (f : Field) (bytes : List ℕ) (v : Value) (end : State S × ℕ) (last : State S) → dereferenced r after.0 ≡ (Ok (held.Field f), after.0) → bits_read_at accesses depth f after ≡ (Ok bytes, end) → value_of_bits (bits_of_field f) bytes end.0 ≡ (Ok v, last)
      → rule accesses (meaning accesses) (task scope depth (of_one opcodes.DerefOf x)) (w, steps) ≡ (Ok (flow.Value v), (last, end.1))
  unfolding rule dereference_rule value_at operand_value field_value settle lift give go_on ◌>>=◌
  reads_so f bytes v end last is read makes = rw (gives, is, read, makes) refl

  unread_so : (f : Field) (e : Refusal) (end : State S × ℕ) → dereferenced r after.0 ≡ (Ok (held.Field f), after.0) → bits_read_at accesses depth f after ≡ (Err e, end) → rule accesses (meaning accesses) (task scope depth (of_one opcodes.DerefOf x)) (w, steps) ≡ (Err e, end)
  unfolding rule dereference_rule value_at operand_value field_value settle lift give go_on ◌>>=◌
  unread_so f e end is read = rw (gives, is, read) refl

  pub value_is_given : (v : Value) → dereferenced r after.0 ≡ (Ok (held.Value v), after.0) → GivesValue accesses scope depth (of_one opcodes.DerefOf x) (w, suc steps) v after
  value_is_given v is = begins accesses scope depth x w steps after ∙ gives_so v is

  pub refusal_is_given : (e : Refusal) → dereferenced r after.0 ≡ (Err e, after.0) → IsRefused accesses scope depth (of_one opcodes.DerefOf x) (w, suc steps) e after
  refusal_is_given e is = begins accesses scope depth x w steps after ∙ stops_so e is

  pub held_is_given : (v : Value) → Holds after.0 r v → v ≢ value.Uninitialized → GivesValue accesses scope depth (of_one opcodes.DerefOf x) (w, suc steps) v after
  held_is_given v holds some = value_is_given v (held_is_read after.0 r v holds some)

  pub name_is_given : (n : ℕ) (path : List Seg) (e : Entry) → r ≡ reference.Name n → numbered n after.0.names.map ≡ Some (path, e) → HoldsNothing e.object → GivesValue accesses scope depth (of_one opcodes.DerefOf x) (w, suc steps) (value.Reference r) after
  name_is_given n path e is stands none = value_is_given (value.Reference r) (rw is (nothing_is_read after.0 n path e stands none))

  pub empty_is_given : IsEmpty after.0 r → IsRefused accesses scope depth (of_one opcodes.DerefOf x) (w, suc steps) (refusal.Evaluation NoValue) after
  empty_is_given empty = refusal_is_given (refusal.Evaluation NoValue) (empty_is_refused after.0 r empty)

  pub dead_is_given : IsDead after.0 r → IsRefused accesses scope depth (of_one opcodes.DerefOf x) (w, suc steps) (refusal.Evaluation DeadReference) after
  dead_is_given dead = refusal_is_given (refusal.Evaluation DeadReference) (dead_is_refused after.0 r dead)

  pub short_field_is_given : (f : Field) (b : ℕ) (bytes : List ℕ) (end : State S × ℕ) → dereferenced r after.0 ≡ (Ok (held.Field f), after.0) → bits_read_at accesses depth f after ≡ (Ok (b ∷ bytes), end) → bits_of_field f ≤ bits_of end.0.width
      → Gives accesses scope depth (of_one opcodes.DerefOf x) (w, suc steps) (lowest_first (take (bytes_of end.0.width) (b ∷ bytes))) end
  short_field_is_given f b bytes end is read few = begins accesses scope depth x w steps after ∙ reads_so f (b ∷ bytes) (value.Integer (lowest_first (take (bytes_of end.0.width) (b ∷ bytes)))) end end.0 is read (number_of_bits end.0 (bits_of_field f) b bytes few)

  pub long_field_is_given : (f : Field) (bytes : List ℕ) (end : State S × ℕ) → dereferenced r after.0 ≡ (Ok (held.Field f), after.0) → bits_read_at accesses depth f after ≡ (Ok bytes, end) → bits_of end.0.width < bits_of_field f → Fits end.0 bytes
      → GivesValue accesses scope depth (of_one opcodes.DerefOf x) (w, suc steps) (value.Buffer (length end.0.objects)) (with_object end.0 (object.Buffer bytes), end.1)
  long_field_is_given f bytes end is read many fits = begins accesses scope depth x w steps after ∙ reads_so f bytes (value.Buffer (length end.0.objects)) end (with_object end.0 (object.Buffer bytes)) is read (buffer_of_bits end.0 (bits_of_field f) bytes many fits)

  pub unread_field_is_given : (f : Field) (e : Refusal) (end : State S × ℕ) → dereferenced r after.0 ≡ (Ok (held.Field f), after.0) → bits_read_at accesses depth f after ≡ (Err e, end) → IsRefused accesses scope depth (of_one opcodes.DerefOf x) (w, suc steps) e end
  unread_field_is_given f e end is read = begins accesses scope depth x w steps after ∙ unread_so f e end is read

-- ---- references one after another

module _ {S : Type 0} (w : State S) where
  module _ (follow : Reference → Change (State S) Referent) where
    found_is_followed : (n : ℕ) (o : NamedObject) → IsReferredTo o → element_named follow n o w ≡ follow (reference.Name n) w
    found_is_followed n _ (holds_reference r) = refl
    found_is_followed n _ (holds_nothing _ scope) = refl
    found_is_followed n _ (holds_nothing _ device) = refl
    found_is_followed n _ (holds_nothing _ processor) = refl
    found_is_followed n _ (holds_nothing _ power_resource) = refl
    found_is_followed n _ (holds_nothing _ thermal_zone) = refl
    found_is_followed n _ (holds_nothing _ (method m)) = refl
    found_is_followed n _ (holds_nothing _ (region r)) = refl
    found_is_followed n _ (holds_nothing _ (mutex count)) = refl
    found_is_followed n _ (holds_nothing _ (event count)) = refl

    value_is_followed : (r q : Reference) (v : Value) → Holds w r v → v ≡ value.Reference q → reference_followed follow r w ≡ follow q w
    unfolding declared_followed declaration slot_followed frame_found slot_held held_followed on_objects element_at give go_on ◌>>=◌
    value_is_followed r q v (by_name n path e u stands is) same = rw (stands, is, same) refl
    value_is_followed r q v (by_slot slot n k f u at stands is) same = rw (at, stands, is, same) refl
    value_is_followed r q v (by_element o i es u at is) same = rw (at, is, same) refl
    value_is_followed r q v (by_byte_of_string o i b bytes at is) same = absurd (cc same)
    value_is_followed r q v (by_byte_of_buffer o i b bytes at is) same = absurd (cc same)

    next_is_followed : (r q : Reference) → IsNext w r q → reference_followed follow r w ≡ follow q w
    unfolding held_followed name_followed entry_found on_objects element_at give go_on ◌>>=◌
    next_is_followed r q (by_value p s holds) = value_is_followed p s (value.Reference s) holds refl
    next_is_followed r q (by_found_name o i n home path e name finds is) = rw (name.stands, name.is, finds) (found_is_followed e.number e.object is)

    dead_is_not_followed : (r : Reference) → IsDead w r → reference_followed follow r w ≡ (Err (refusal.Evaluation DeadReference), w)
    unfolding declared_followed declaration slot_followed frame_found held_followed byte_followed on_objects element_at byte_at give go_on ◌>>=◌
    dead_is_not_followed r (name_gone n none) = rw none refl
    dead_is_not_followed r (call_ended slot n none) = rw none refl
    dead_is_not_followed r (no_element o i past) = rw (no_element_in i (slice_get w.objects o) past) refl
    dead_is_not_followed r (no_byte o i past) = rw (no_byte_in i (slice_get w.objects o) past) refl

    empty_is_followed : (r : Reference) → IsEmpty w r → reference_followed follow r w ≡ (Ok (referent.Value value.Uninitialized), w)
    unfolding slot_followed frame_found slot_held held_followed on_objects element_at give go_on ◌>>=◌
    empty_is_followed r (empty_slot slot n k f at stands is) = rw (at, stands, is) refl
    empty_is_followed r (empty_element o i es at is) = rw (at, is) refl

    unfound_is_followed : (o i : ℕ) (n : Name) (home : List Seg) (e : Refusal) → HoldsName w o i n home → found w.names.map home n ≡ Err e → reference_followed follow (reference.Element o i) w ≡ (Err e, w)
    unfolding held_followed name_followed entry_found on_objects element_at give go_on ◌>>=◌
    unfound_is_followed o i n home e name lost = rw (name.stands, name.is, lost) refl

  abbrev IsNotFollowed : ℕ → Reference → Type 0
  IsNotFollowed k r = followed k r w ≡ (Err (refusal.Evaluation DeadReference), w)

  none_left : (r : Reference) → IsNotFollowed zero r
  unfolding followed stop
  none_left r = refl

  one_further : (k : ℕ) (r q : Reference) → IsNext w r q → IsNotFollowed k q → IsNotFollowed (suc k) r
  unfolding followed
  one_further k r q is none = next_is_followed (followed k) r q is ∙ none

  at_dead : (k : ℕ) (r : Reference) → IsDead w r → IsNotFollowed (suc k) r
  unfolding followed
  at_dead k r dead = dead_is_not_followed (followed k) r dead

  too_far : (k n : ℕ) (r q : Reference) → Leads w n r q → k ≤ n → IsNotFollowed k r
  too_far zero n r q leads le = none_left r
  too_far (suc k) n r q (nowhere p) le = absurd (omega (arith, le))
  too_far (suc k) n r q (further m p s end is leads) le = one_further k p s is (too_far k m s end leads (omega (arith, le)))

  to_dead : (k n : ℕ) (r q : Reference) → Leads w n r q → IsDead w q → IsNotFollowed k r
  to_dead zero n r q leads dead = none_left r
  to_dead (suc k) n r q (nowhere p) dead = at_dead k p dead
  to_dead (suc k) n r q (further m p s end is leads) dead = one_further k p s is (to_dead k m s end leads dead)

  in_circle : (k n m : ℕ) (r q s : Reference) → Leads w n r q → IsNext w q s → Leads w m s q → IsNotFollowed k r
  in_circle zero n m r q s leads is back = none_left r
  in_circle (suc k) n m r q s (nowhere p) is back = one_further k p s is (in_circle k m m s p s back is back)
  in_circle (suc k) n m r q s (further i p a end next leads) is back = one_further k p a next (in_circle k i m a end s leads is back)

  round : (k n m : ℕ) (r q end : Reference) → Leads w n r q → Leads w m q end → m ≢ zero → end ≡ q → IsNotFollowed k r
  round k n m r q end leads (nowhere p) some same = absurd (some refl)
  round k n m r q end leads (further j p s last is back) some same = in_circle k n j r p s leads is (subst (λ x. Leads w j s x) same back)

  at_empty : (k : ℕ) (r : Reference) → IsEmpty w r → followed (suc k) r w ≡ (Ok (referent.Value value.Uninitialized), w)
  unfolding followed
  at_empty k r empty = empty_is_followed (followed k) r empty

  one_on : (k : ℕ) (r q : Reference) (y : Outcome Referent) → IsNext w r q → followed k q w ≡ (y, w) → followed (suc k) r w ≡ (y, w)
  unfolding followed
  one_on k r q y is comes = next_is_followed (followed k) r q is ∙ comes

  to_end : (k n : ℕ) (r q : Reference) (y : Outcome Referent) → Leads w n r q → ((j : ℕ) → followed (suc j) q w ≡ (y, w)) → n < k → followed k r w ≡ (y, w)
  to_end zero n r q y leads ends less = absurd (omega (arith, less))
  to_end (suc k) n r q y (nowhere p) ends less = ends k
  to_end (suc k) n r q y (further m p s end is leads) ends less = one_on k p s y is (to_end k m s end y leads ends (omega (arith, less)))

  pub an_empty_end_is_found : (n : ℕ) (r q : Reference) → Leads w n r q → n < 64 → IsEmpty w q → target_referent (targets.Refers r) w ≡ (Ok (referent.Value value.Uninitialized), w)
  an_empty_end_is_found n r q leads less empty = to_end 64 n r q (Ok (referent.Value value.Uninitialized)) leads (λ j. at_empty j q empty) less

  at_unfound : (k o i : ℕ) (n : Name) (home : List Seg) (e : Refusal) → HoldsName w o i n home → found w.names.map home n ≡ Err e → followed (suc k) (reference.Element o i) w ≡ (Err e, w)
  unfolding followed
  at_unfound k o i n home e name lost = unfound_is_followed (followed k) o i n home e name lost

  pub an_unfound_end_is_refused : (r : Reference) (e : Refusal) → EndsUnfound w r e → target_referent (targets.Refers r) w ≡ (Err e, w)
  an_unfound_end_is_refused r e h = to_end 64 h.count r (reference.Element h.o h.i) (Err e) h.leads (λ j. at_unfound j h.o h.i h.name h.home e h.holds h.unfound) h.few

  pub too_long_is_refused : (n : ℕ) (r q : Reference) → Leads w n r q → 64 ≤ n → target_referent (targets.Refers r) w ≡ (Err (refusal.Evaluation DeadReference), w)
  too_long_is_refused n r q leads le = too_far 64 n r q leads le

  pub a_dead_end_is_refused : (n : ℕ) (r q : Reference) → Leads w n r q → IsDead w q → target_referent (targets.Refers r) w ≡ (Err (refusal.Evaluation DeadReference), w)
  a_dead_end_is_refused n r q leads dead = to_dead 64 n r q leads dead

  pub a_circle_is_refused : (n m : ℕ) (r q : Reference) → Leads w n r q → Leads w m q q → m ≢ zero → target_referent (targets.Refers r) w ≡ (Err (refusal.Evaluation DeadReference), w)
  a_circle_is_refused n m r q leads back some = round 64 n m r q q leads back some refl
