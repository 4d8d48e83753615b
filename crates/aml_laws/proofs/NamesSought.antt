-- CondRefOf refers to a name that is found, and to a slot that holds a value.
use Rattle.std.specs.Prelude.{◌≡◌, ◌≢◌, ◌-◌, ◌^◌, ℕ, suc, List, Some, None, Ok, Err, refl}
use Rattle.std.proofs.Common.{ap, ◌∙◌}
use Rattle.ar_space.specs.declared.refusal.Refusal.{Refusal}
use Rattle.ar_space.specs.declared.refusal.Refusal.TheVariants as refusal
use Rattle.ar_space.specs.declared.refusal.NamespaceFault.TheVariants.{Exists, NotFound}
use Rattle.ar_space.specs.Accesses.{Accesses}
use Rattle.ar_space.specs.Outcome.{Outcome}
use Rattle.ar_space.specs.Change.{give, settle, go_on, ◌>>=◌}
use Rattle.aml_path.specs.declared.segment.Seg.{Seg}
use Rattle.aml_path.specs.Paths.{Name}
use Rattle.aml_grammar.specs.declared.opcode.Opcode.{Opcode}
use Rattle.aml_grammar.specs.Tree.{Part, name, inner}
use Rattle.aml_objects.specs.declared.entry.Entry.{Entry}
use Rattle.aml_objects.specs.declared.value.Reference.{Reference}
use Rattle.aml_objects.specs.declared.value.Reference.TheVariants as reference
use Rattle.aml_objects.specs.declared.value.Slot.{Slot}
use Rattle.aml_objects.specs.declared.value.Value.{Value}
use Rattle.aml_objects.specs.declared.value.Value.TheVariants as value
use Rattle.aml_convert.specs.Integers.{bits_of}
use Rattle.aml_namespace.specs.Search.{found}
use Rattle.aml_world.specs.declared.values.store_target.StoreTarget.TheVariants as targets
use Rattle.aml_world.specs.state.State.{State}
use Rattle.aml_world.specs.state.Run.{lift}
use Rattle.aml_world.specs.state.Readings.{integer_kept}
use Rattle.aml_world.specs.values.Stores.{stored}
use Rattle.aml_world.specs.values.StoreTargets.{latest_frame, frame_found, slot_held, frame_number, slot_reference, unless_empty, slot_initialized, where_found, reference_if_found}
use Rattle.aml_meaning.specs.declared.flow.Flow.{Flow}
use Rattle.aml_meaning.specs.declared.flow.Flow.TheVariants as flow
use Rattle.aml_meaning.specs.Tasks.{task}
use Rattle.aml_meaning.specs.OperatorTerms.{sought_name, sought_target, sought, reference_stored, conditional_rule}
use Rattle.aml_meaning.specs.Evaluation.{rule}
use Rattle.aml_meaning.specs.Meaning.{meaning}
use Rattle.aml_laws.specs.OperatorTerms.{alone, NamesSlot, slot, SlotHolds, SlotIsEmpty, Gives, IsRefused}
use Rattle.aml_laws.specs.PutIntoTargets.{IsTaken, IsNotTaken, PutsReferenceAfter, PutsReference}
use Rattle.aml_laws.specs.ReferringTerms.{conditional, IsNumberedLast}
use Rattle.aml_laws.proofs.TreesCost.{term_begins}
use Rattle.aml_laws.proofs.OperatorsComputed.{target_is}
use Rattle.aml_laws.proofs.PutIntoTargets.{targeted_so}
use Rattle.aml_laws.proofs.ConstantsGiven.{all_kept}

pub some_reference : (v : Value) (r : Reference) → v ≢ value.Uninitialized → unless_empty v r ≡ Some r
some_reference value.Uninitialized r some = absurd (some refl)
some_reference (value.Integer n) r some = refl
some_reference (value.String o) r some = refl
some_reference (value.Buffer o) r some = refl
some_reference (value.Package o) r some = refl
some_reference (value.Reference q) r some = refl

-- only a name that isn't found is none
kept_refusal : (e : Refusal) → e ≢ refusal.Namespace NotFound → where_found (Err e) ≡ Err e
kept_refusal (refusal.Space f) other = refl
kept_refusal (refusal.Table f) other = refl
kept_refusal (refusal.Name f) other = refl
kept_refusal (refusal.Term f at) other = refl
kept_refusal (refusal.Value f) other = refl
kept_refusal (refusal.Field f) other = refl
kept_refusal (refusal.Namespace Exists) other = refl
kept_refusal (refusal.Namespace NotFound) other = absurd (other refl)
kept_refusal (refusal.Evaluation f) other = refl
kept_refusal (refusal.Machine f) other = refl
kept_refusal refusal.OutOfMemory other = refl
kept_refusal (refusal.Resource f) other = refl
kept_refusal (refusal.RoutingTable f) other = refl
kept_refusal (refusal.Routing f) other = refl
kept_refusal (refusal.Report f) other = refl
kept_refusal (refusal.Input f) other = refl

module _ {S : Type 0} (accesses : Accesses S) (scope : List Seg) (depth : ℕ) (w : State S) (steps : ℕ) (p q : Part) (between : State S × ℕ) where
  -- what comes of what is sought
  stored_so : (r : Reference) (end : State S × ℕ) → IsTaken accesses scope depth stored q (value.Reference r) between end
      → reference_stored accesses (meaning accesses) scope depth (conditional p q) r between ≡ (Ok (flow.Value (value.Integer (2 ^ bits_of end.0.width - 1))), end)
  unfolding reference_stored integer_kept lift give go_on ◌>>=◌
  stored_so r end taken = rw (targeted_so accesses scope depth (conditional p q) 1 q refl (value.Reference r) between (Ok tt) end taken) (ap (λ (n : ℕ). (Ok (flow.Value (value.Integer n)), end)) (all_kept end.0.width))

  not_stored_so : (r : Reference) (e : Refusal) (end : State S × ℕ) → IsNotTaken accesses scope depth stored q (value.Reference r) between e end → reference_stored accesses (meaning accesses) scope depth (conditional p q) r between ≡ (Err e, end)
  unfolding reference_stored go_on ◌>>=◌
  not_stored_so r e end refuses = rw (targeted_so accesses scope depth (conditional p q) 1 q refl (value.Reference r) between (Err e) end refuses) refl

  found_so : (r : Reference) (y : Outcome Flow × (State S × ℕ)) → sought accesses (meaning accesses) scope depth (conditional p q) (Some p) (w, steps) ≡ (Ok (Some r), between) → reference_stored accesses (meaning accesses) scope depth (conditional p q) r between ≡ y
      → rule accesses (meaning accesses) (task scope depth (conditional p q)) (w, steps) ≡ y
  unfolding rule conditional_rule go_on ◌>>=◌
  found_so r y is comes = rw is comes

  none_so : sought accesses (meaning accesses) scope depth (conditional p q) (Some p) (w, steps) ≡ (Ok None, between) → rule accesses (meaning accesses) (task scope depth (conditional p q)) (w, steps) ≡ (Ok (flow.Value (value.Integer 0)), between)
  unfolding rule conditional_rule give go_on ◌>>=◌
  none_so is = rw is refl

  stops_so : (e : Refusal) → sought accesses (meaning accesses) scope depth (conditional p q) (Some p) (w, steps) ≡ (Err e, between) → rule accesses (meaning accesses) (task scope depth (conditional p q)) (w, steps) ≡ (Err e, between)
  unfolding rule conditional_rule go_on ◌>>=◌
  stops_so e is = rw is refl

  pub referred : (r : Reference) → sought accesses (meaning accesses) scope depth (conditional p q) (Some p) (w, steps) ≡ (Ok (Some r), between) → PutsReferenceAfter accesses scope depth (conditional p q) (w, steps) between q r
  referred r is end = (
    λ taken. (term_begins accesses (task scope depth (conditional p q))).paid w steps ∙ found_so r (Ok (flow.Value (value.Integer (2 ^ bits_of end.0.width - 1))), end) is (stored_so r end taken),
    λ e refuses. (term_begins accesses (task scope depth (conditional p q))).paid w steps ∙ found_so r (Err e, end) is (not_stored_so r e end refuses),
  )

  pub not_referred : sought accesses (meaning accesses) scope depth (conditional p q) (Some p) (w, steps) ≡ (Ok None, between) → Gives accesses scope depth (conditional p q) (w, suc steps) 0 between
  not_referred is = (term_begins accesses (task scope depth (conditional p q))).paid w steps ∙ none_so is

  pub not_sought : (e : Refusal) → sought accesses (meaning accesses) scope depth (conditional p q) (Some p) (w, steps) ≡ (Err e, between) → IsRefused accesses scope depth (conditional p q) (w, suc steps) e between
  not_sought e is = (term_begins accesses (task scope depth (conditional p q))).paid w steps ∙ stops_so e is

module _ {S : Type 0} (accesses : Accesses S) (scope : List Seg) (depth : ℕ) (w : State S) (steps : ℕ) (q : Part) where
  -- ---- names

  name_sought : (n : Name) (path : List Seg) (e : Entry) → found w.names.map scope n ≡ Ok (path, e) → sought accesses (meaning accesses) scope depth (conditional (name n) q) (Some (name n)) (w, steps) ≡ (Ok (Some (reference.Name e.number)), (w, steps))
  unfolding sought_name reference_if_found settle lift go_on ◌>>=◌
  name_sought n path e finds = rw finds refl

  none_sought : (n : Name) → found w.names.map scope n ≡ Err (refusal.Namespace NotFound) → sought accesses (meaning accesses) scope depth (conditional (name n) q) (Some (name n)) (w, steps) ≡ (Ok None, (w, steps))
  unfolding sought_name reference_if_found settle lift go_on ◌>>=◌
  none_sought n lost = rw lost refl

  pub name_is_referred : (n : Name) (path : List Seg) (e : Entry) → found w.names.map scope n ≡ Ok (path, e) → PutsReference accesses scope depth (conditional (name n) q) (w, steps) q (reference.Name e.number)
  name_is_referred n path e finds = referred accesses scope depth w steps (name n) q (w, steps) (reference.Name e.number) (name_sought n path e finds)

  pub none_is_referred : (n : Name) → found w.names.map scope n ≡ Err (refusal.Namespace NotFound) → Gives accesses scope depth (conditional (name n) q) (w, suc steps) 0 (w, steps)
  none_is_referred n lost = not_referred accesses scope depth w steps (name n) q (w, steps) (none_sought n lost)

  pub other_refusal_stays : (n : Name) (e : Refusal) → found w.names.map scope n ≡ Err e → e ≢ refusal.Namespace NotFound → IsRefused accesses scope depth (conditional (name n) q) (w, suc steps) e (w, steps)
  unfolding rule conditional_rule sought_name reference_if_found settle lift go_on ◌>>=◌
  other_refusal_stays n e is other = (term_begins accesses (task scope depth (conditional (name n) q))).paid w steps ∙ rw (is, kept_refusal e other) refl

  -- ---- slots

  slot_sought : (op : Opcode) (s : Slot) (v : Value) → NamesSlot op s → (h : SlotHolds w s v) → IsNumberedLast w h.frame h.last
      → sought accesses (meaning accesses) scope depth (conditional (inner (alone op)) q) (Some (inner (alone op))) (w, steps) ≡ (Ok (Some (reference.Slot s h.frame.number)), (w, steps))
  unfolding sought_target slot_reference latest_frame frame_number slot_initialized frame_found slot_held lift give go_on ◌>>=◌
  slot_sought op s v names h numbered = rw (target_is accesses scope depth (conditional (inner (alone op)) q) 0 w steps (inner (alone op)) (targets.Slot s) (slot op s names) refl, h.latest, h.stands, numbered, h.stands, h.holds, some_reference v (reference.Slot s h.frame.number) h.initialized) refl

  empty_sought : (op : Opcode) (s : Slot) → NamesSlot op s → (h : SlotIsEmpty w s) → IsNumberedLast w h.frame h.last → sought accesses (meaning accesses) scope depth (conditional (inner (alone op)) q) (Some (inner (alone op))) (w, steps) ≡ (Ok None, (w, steps))
  unfolding sought_target slot_reference latest_frame frame_number slot_initialized frame_found slot_held lift give go_on ◌>>=◌
  empty_sought op s names h numbered = rw (target_is accesses scope depth (conditional (inner (alone op)) q) 0 w steps (inner (alone op)) (targets.Slot s) (slot op s names) refl, h.latest, h.stands, numbered, h.stands, h.empty) refl

  pub slot_is_referred : (op : Opcode) (s : Slot) (v : Value) → NamesSlot op s → (h : SlotHolds w s v) → IsNumberedLast w h.frame h.last → PutsReference accesses scope depth (conditional (inner (alone op)) q) (w, steps) q (reference.Slot s h.frame.number)
  slot_is_referred op s v names h numbered = referred accesses scope depth w steps (inner (alone op)) q (w, steps) (reference.Slot s h.frame.number) (slot_sought op s v names h numbered)

  pub empty_is_not_referred : (op : Opcode) (s : Slot) → NamesSlot op s → (h : SlotIsEmpty w s) → IsNumberedLast w h.frame h.last → Gives accesses scope depth (conditional (inner (alone op)) q) (w, suc steps) 0 (w, steps)
  empty_is_not_referred op s names h numbered = not_referred accesses scope depth w steps (inner (alone op)) q (w, steps) (empty_sought op s names h numbered)
