-- What CopyObject leaves in a name, and Store and CopyObject in a local, is a copy.
use Rattle.std.specs.Prelude.{◌≡◌, ◌+◌, ◌++◌, ℕ, zero, suc, List, length, Option, Some, None, Ok, Err, refl}
use Rattle.std.specs.FinMap.{get, insert}
use Rattle.std.proofs.Common.{ap, sym, subst, ◌∙◌, arith}
use Rattle.ar_space.specs.Outcome.{Outcome}
use Rattle.ar_space.specs.Change.{Change, give, stop}
use Rattle.aml_path.specs.declared.segment.Seg.{Seg}
use Rattle.aml_fields.proofs.UnitWrites.{steps}
use Rattle.aml_objects.specs.Copies.{copied}
use Rattle.aml_objects.specs.Objects.{Objects}
use Rattle.aml_objects.specs.declared.entry.Entry.{Entry}
use Rattle.aml_objects.specs.declared.entry.Field.{Field}
use Rattle.aml_objects.specs.declared.entry.NamedObject.{NamedObject}
use Rattle.aml_objects.specs.declared.entry.NamedObject.TheVariants as object
use Rattle.aml_objects.specs.declared.value.Reference.{Reference}
use Rattle.aml_objects.specs.declared.value.Slot.TheVariants.{Local}
use Rattle.aml_objects.specs.declared.value.Value.{Value}
use Rattle.aml_namespace.specs.Namespace.{Namespace, with_object, replaced, replaced_in}
use Rattle.aml_world.specs.state.State.{State, on_objects, on_names}
use Rattle.aml_world.specs.values.StoreTargets.{held_at, last_index, or_ended, latest_frame, slot_held}
use Rattle.aml_world.specs.declared.values.store_target.Holding.{Holding}
use Rattle.aml_world.specs.declared.values.store_target.Holding.TheVariants as holding
use Rattle.aml_world.specs.values.Stores.{slot_put, copy_into_slot, copy_into_name, copy_over, store_in_frame, store_in_slot, stored_through, copy_in_name, stored, copied_to}
use Rattle.aml_world.specs.declared.values.store_target.StoreTarget.TheVariants as targets
use Rattle.aml_world.specs.declared.values.store_target.Stored.{Stored}
use Rattle.aml_world.specs.declared.values.store_target.Stored.TheVariants as store
use Rattle.aml_laws.specs.Copied.{IsCopy}
use Rattle.aml_laws.specs.StoredCopies.{NameHoldsCopy, LocalHoldsCopy}
use Rattle.aml_laws.proofs.CopiesApart.{copy_is_apart, copy_adds}
use Rattle.aml_laws.proofs.FieldsInOrder.{given, never_stopped, entry_put}

latest_is : (n k : ℕ) → or_ended (last_index n) ≡ Ok k → n ≡ k + 1
latest_is zero k e = absurd (cc e)
latest_is (suc n) k e = let same : n ≡ k = cc e in omega (arith, same)

module _ {S : Type 0} where
  -- ---- the copy

  record Copied (w v : State S) (from to : Value) : Type 0 where
    is : IsCopy (length w.objects) v.objects from to
    rest : v ≡ record w { objects = v.objects }
    made : Objects
    added : v.objects ≡ w.objects ++ made

  copied_so : (w u : State S) (from to : Value) → on_objects (copied from) w ≡ (Ok to, u) → Copied w u from to
  unfolding on_objects
  copied_so w u from to e =
      let left : record w { objects = (copied from w.objects).1 } ≡ u = ap (λ (r : Outcome Value × State S). r.1) e in
      let objects : (copied from w.objects).1 ≡ u.objects = ap (λ (x : State S). x.objects) left in
      let same : copied from w.objects ≡ (Ok to, u.objects) = ap (λ (x : Outcome Value). (x, (copied from w.objects).1)) (ap (λ (r : Outcome Value × State S). r.0) e) ∙ ap (λ o. (Ok to, o)) objects in
      let more = copy_adds w.objects u.objects from to same in
      record { is = copy_is_apart w.objects u.objects from to same; rest = sym left ∙ ap (λ o. record w { objects = o }) objects; made = more.0; added = more.1 }

  -- ---- in a name

  record Replaced (p : List Seg) (o : NamedObject) (w v : State S) : Type 0 where
    entry : Entry
    stands : get v.names.map p ≡ Some entry
    holds : entry.object ≡ o
    earlier : Entry
    stood : get w.names.map p ≡ Some earlier
    numbered : entry.number ≡ earlier.number
    put : v ≡ record w { names = record w.names { map = insert w.names.map p entry } }

  replaced_so : (p : List Seg) (o : NamedObject) (w v : State S) (u : Unit {0}) → on_names (replaced p o) w ≡ (Ok u, v) → Replaced p o w v
  unfolding on_names replaced
  replaced_so p o w v u e = by (get w.names.map p) refl e
    where
      by : (x : Option Entry) → get w.names.map p ≡ x → ◌≡◌ {A = Outcome (Unit {0}) × State S} ((replaced_in p o w.names x).0, record w { names = (replaced_in p o w.names x).1 }) (Ok u, v) → Replaced p o w v
      by None at i = absurd (cc (ap (λ (r : Outcome (Unit {0}) × State S). r.0) i))
      by (Some x) at i =
          let left : record w { names = record w.names { map = insert w.names.map p (with_object o x) } } ≡ v = ap (λ (r : Outcome (Unit {0}) × State S). r.1) i in
          record {
            entry = with_object o x;
            stands = ap (λ (s : State S). get s.names.map p) (sym left) ∙ entry_put w.names.map p (with_object o x);
            holds = refl;
            earlier = x;
            stood = at;
            numbered = refl;
            put = sym left;
          }

  copied_into_name : (p : List Seg) (v : Value) (w after : State S) → copy_into_name p v w ≡ (Ok store.Done, after) → NameHoldsCopy w after p v
  unfolding copy_into_name
  copied_into_name p v w after e =
      let one = steps (on_objects (copied v)) _ w store.Done after e in
      let copy = copied_so w one.middle v one.value one.first in
      let two = steps (on_names (replaced p (object.Data one.value))) _ one.middle store.Done after one.second in
      let put = replaced_so p (object.Data one.value) one.middle two.middle two.value two.first in
      let last = given store.Done store.Done two.middle after two.second in
      let left : one.middle ≡ record w { objects = w.objects ++ copy.made } = copy.rest ∙ ap (λ o. record w { objects = o }) copy.added in
      let all : after ≡ record one.middle { names = record one.middle.names { map = insert one.middle.names.map p put.entry } } = sym last.1 ∙ put.put in
      let objects : one.middle.objects ≡ after.objects = ap (λ (s : State S). s.objects) (sym all) in
      record {
        copy = one.value;
        is = subst (λ o. IsCopy (length w.objects) o v one.value) objects copy.is;
        entry = put.entry;
        stands = ap (λ (s : State S). get s.names.map p) (sym last.1) ∙ put.stands;
        holds = put.holds;
        earlier = put.earlier;
        stood = ap (λ (s : State S). get s.names.map p) (sym left) ∙ put.stood;
        numbered = put.numbered;
        made = copy.made;
        put = all ∙ ap (λ (s : State S). record s { names = record s.names { map = insert s.names.map p put.entry } }) left;
      }

  over : (h : Holding) (p : List Seg) (v : Value) (w after : State S) → copy_over h p v w ≡ (Ok store.Done, after) → NameHoldsCopy w after p v
  over (holding.Value old) p v w after e = copied_into_name p v w after e
  over (holding.Field f) p v w after e = absurd (cc (given (store.Field f) store.Done w after e).0)
  over holding.Nothing p v w after e = absurd (never_stopped _ store.Done w after e)

  pub name_holds_copy : (w after : State S) (p : List Seg) (v : Value) → copied_to (targets.Name p) v w ≡ (Ok store.Done, after) → NameHoldsCopy w after p v
  unfolding copy_in_name held_at
  name_holds_copy w after p v e =
      let one = steps (held_at p) (λ h. copy_over h p v) w store.Done after e in
      let same : one.middle ≡ w = sym (ap (λ (r : Outcome Holding × State S). r.1) one.first) in
      over one.value p v w after (subst (λ (u : State S). copy_over one.value p v u ≡ (Ok store.Done, after)) same one.second)

  -- ---- in a local

  into_slot : (k i : ℕ) (v : Value) (w after : State S) → length w.frames ≡ k + 1 → copy_into_slot k (Local i) v w ≡ (Ok store.Done, after) → LocalHoldsCopy w after i v
  unfolding copy_into_slot slot_put
  into_slot k i v w after latest e =
      let one = steps (on_objects (copied v)) _ w store.Done after e in
      let copy = copied_so w one.middle v one.value one.first in
      let two = steps (slot_put k (Local i) one.value) _ one.middle store.Done after one.second in
      let last = given store.Done store.Done two.middle after two.second in
      let put : (slot_put k (Local i) one.value one.middle).1 ≡ after = ap (λ (r : Outcome (Unit {0}) × State S). r.1) two.first ∙ last.1 in
      let objects : one.middle.objects ≡ after.objects = ap (λ (s : State S). s.objects) put in
      record {
        copy = one.value;
        is = subst (λ o. IsCopy (length w.objects) o v one.value) objects copy.is;
        frame = k;
        latest = latest;
        put = sym put ∙ ap (λ (s : State S). (slot_put k (Local i) one.value s).1) (copy.rest ∙ ap (λ o. record w { objects = o }) objects);
        made = copy.made;
        added = sym objects ∙ copy.added;
      }

  local_holds : (w after : State S) (i : ℕ) (v : Value) → store_in_slot (Local i) v w ≡ (Ok store.Done, after) → LocalHoldsCopy w after i v
  unfolding store_in_slot store_in_frame latest_frame slot_held
  local_holds w after i v e =
      let one = steps latest_frame _ w store.Done after e in
      let here : one.middle ≡ w = sym (ap (λ (r : Outcome ℕ × State S). r.1) one.first) in
      let latest = latest_is (length w.frames) one.value (ap (λ (r : Outcome ℕ × State S). r.0) one.first) in
      let two = steps (slot_held one.value (Local i)) _ one.middle store.Done after one.second in
      let there : two.middle ≡ w = sym (ap (λ (r : Outcome Value × State S). r.1) two.first) ∙ here in
      into_slot one.value i v w after latest (subst (λ (u : State S). copy_into_slot one.value (Local i) v u ≡ (Ok store.Done, after)) there two.second)

  pub local_stored : (w after : State S) (i : ℕ) (v : Value) → stored (targets.Slot (Local i)) v w ≡ (Ok store.Done, after) → LocalHoldsCopy w after i v
  local_stored w after i v e = local_holds w after i v e

  pub local_copied : (w after : State S) (i : ℕ) (v : Value) → copied_to (targets.Slot (Local i)) v w ≡ (Ok store.Done, after) → LocalHoldsCopy w after i v
  local_copied w after i v e = local_holds w after i v e
