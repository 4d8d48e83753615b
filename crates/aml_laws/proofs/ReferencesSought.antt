-- Each target but Debug has a reference, and a conditional reference gives that of what a term names.
use Rattle.std.specs.Prelude.{◌≡◌, ◌≢◌, ℕ, suc, List, length, Option, Some, None, Ok, Err, refl}
use Rattle.ar_space.specs.Accesses.{Accesses}
use Rattle.ar_space.specs.Change.{give, stop, go_on, ◌>>=◌}
use Rattle.ar_space.specs.Outcome.{Outcome}
use Rattle.ar_space.specs.declared.refusal.Refusal.{Refusal}
use Rattle.ar_space.specs.declared.refusal.Refusal.TheVariants as refusal
use Rattle.ar_space.specs.declared.refusal.EvaluationFault.TheVariants.{DeadReference}
use Rattle.ar_space.specs.declared.refusal.ValueFault.TheVariants.{WrongType}
use Rattle.aml_path.specs.declared.segment.Seg.{Seg}
use Rattle.aml_grammar.specs.Tree.{Tree, Part, inner}
use Rattle.aml_objects.specs.Objects.{element_at}
use Rattle.aml_objects.specs.declared.value.Reference.{Reference}
use Rattle.aml_objects.specs.declared.value.Reference.TheVariants as reference
use Rattle.aml_objects.specs.declared.value.Slot.{Slot}
use Rattle.aml_objects.specs.declared.value.Value.{Value}
use Rattle.aml_objects.specs.declared.value.Value.TheVariants as value
use Rattle.aml_world.specs.declared.values.store_target.StoreTarget.{StoreTarget}
use Rattle.aml_world.specs.declared.values.store_target.StoreTarget.TheVariants as targets
use Rattle.aml_world.specs.state.Run.{lift}
use Rattle.aml_world.specs.state.State.{State, on_objects}
use Rattle.aml_world.specs.values.StoreTargets.{latest_frame, frame_found, slot_held, frame_number, slot_reference, declared_number, name_reference, reference_of, slot_initialized, element_initialized, if_initialized}
use Rattle.aml_meaning.specs.Meaning.{meaning}
use Rattle.aml_meaning.specs.OperatorTerms.{sought_target, sought}
use Rattle.aml_meaning.specs.TargetTerms.{target_of}
use Rattle.aml_laws.specs.Dereferenced.{Holds, by_name, by_slot, by_element, by_byte_of_string, by_byte_of_buffer, IsEmpty, empty_slot, empty_element}
use Rattle.aml_laws.specs.OperatorTerms.{Gives, IsRefused}
use Rattle.aml_laws.specs.PutIntoTargets.{PutsReferenceAfter}
use Rattle.aml_laws.specs.ReferencesOfTargets.{RefersTo, a_declaration, a_slot, a_referent, IsReferable, with_value, a_named_element, any_name, any_byte}
use Rattle.aml_laws.specs.ReferringTerms.{conditional}
use Rattle.aml_laws.specs.TargetsNamed.{NamesAt, NamesNone}
use Rattle.aml_laws.proofs.NamesSought.{some_reference, referred, not_referred, not_sought}
use Rattle.aml_laws.proofs.PutIntoTargets.{target_so, no_target_so}

-- ---- references to targets

module _ {S : Type 0} (w : State S) where
  pub target_refers : (t : StoreTarget) (r : Reference) → RefersTo w t r → reference_of t w ≡ (Ok r, w)
  unfolding name_reference declared_number slot_reference latest_frame frame_number give go_on ◌>>=◌
  target_refers _ _ (a_declaration path e at) = rw at refl
  target_refers _ _ (a_slot s last f latest stands) = rw (latest, stands) refl
  target_refers _ _ (a_referent r) = refl

  pub slot_refers_to_none : (s : Slot) → length w.frames ≡ 0 → reference_of (targets.Slot s) w ≡ (Err (refusal.Evaluation DeadReference), w)
  unfolding slot_reference latest_frame go_on ◌>>=◌
  slot_refers_to_none s none = rw none refl

  pub debug_refers_to_none : reference_of targets.Nowhere w ≡ (Err (refusal.Value WrongType), w)
  unfolding stop
  debug_refers_to_none = refl

  -- ---- what holds a value

  value_is_there : (r : Reference) (v : Value) → Holds w r v → v ≢ value.Uninitialized → if_initialized r w ≡ (Ok (Some r), w)
  unfolding slot_initialized frame_found slot_held element_initialized on_objects element_at give go_on ◌>>=◌
  value_is_there _ _ (by_name n path e v at is) some = refl
  value_is_there _ _ (by_slot s n k f v at stands is) some = rw (at, stands, is, some_reference v (reference.Slot s n) some) refl
  value_is_there _ _ (by_element o i es v at is) some = rw (at, is, some_reference v (reference.Element o i) some) refl
  value_is_there _ _ (by_byte_of_string o i b bytes at is) some = refl
  value_is_there _ _ (by_byte_of_buffer o i b bytes at is) some = refl

  referable_is_there : (r : Reference) → IsReferable w r → if_initialized r w ≡ (Ok (Some r), w)
  unfolding element_initialized on_objects element_at give go_on ◌>>=◌
  referable_is_there _ (with_value r v holds some) = value_is_there r v holds some
  referable_is_there _ (a_named_element o i n home h) = rw (h.stands, h.is) refl
  referable_is_there _ (any_name n) = refl
  referable_is_there _ (any_byte o i) = refl

  empty_is_not_there : (r : Reference) → IsEmpty w r → if_initialized r w ≡ (Ok None, w)
  unfolding slot_initialized frame_found slot_held element_initialized on_objects element_at give go_on ◌>>=◌
  empty_is_not_there _ (empty_slot s n k f at stands is) = rw (at, stands, is) refl
  empty_is_not_there _ (empty_element o i es at is) = rw (at, is) refl

-- ---- CondRefOf of a term

module _ {S : Type 0} (accesses : Accesses S) (scope : List Seg) (depth : ℕ) (u : Tree) (w : State S) (steps : ℕ) (q : Part) where
  abbrev term_sought : Outcome (Option Reference) × (State S × ℕ)
  term_sought = sought accesses (meaning accesses) scope depth (conditional (inner u) q) (Some (inner u)) (w, steps)

  module _ (t : StoreTarget) (after : State S × ℕ) (names : NamesAt accesses scope depth (w, steps) (inner u) t after) where
    named_so : target_of (meaning accesses) scope depth u (w, steps) ≡ (Ok t, after)
    named_so = target_so accesses scope depth (conditional (inner u) q) 0 (inner u) refl (w, steps) t after names

    module _ (r : Reference) (refers : RefersTo after.0 t r) where
      referable_sought : IsReferable after.0 r → term_sought ≡ (Ok (Some r), after)
      unfolding sought_target lift go_on ◌>>=◌
      referable_sought is = rw (named_so, target_refers after.0 t r refers, referable_is_there after.0 r is) refl

      empty_sought : IsEmpty after.0 r → term_sought ≡ (Ok None, after)
      unfolding sought_target lift go_on ◌>>=◌
      empty_sought is = rw (named_so, target_refers after.0 t r refers, empty_is_not_there after.0 r is) refl

      pub referable_is_referred : IsReferable after.0 r → PutsReferenceAfter accesses scope depth (conditional (inner u) q) (w, steps) after q r
      referable_is_referred is = referred accesses scope depth w steps (inner u) q after r (referable_sought is)

      pub empty_is_zero : IsEmpty after.0 r → Gives accesses scope depth (conditional (inner u) q) (w, suc steps) 0 after
      empty_is_zero is = not_referred accesses scope depth w steps (inner u) q after (empty_sought is)

    unreferable_sought : (e : Refusal) → reference_of t after.0 ≡ (Err e, after.0) → term_sought ≡ (Err e, after)
    unfolding sought_target lift go_on ◌>>=◌
    unreferable_sought e is = rw (named_so, is) refl

    pub unreferable_is_refused : (e : Refusal) → reference_of t after.0 ≡ (Err e, after.0) → IsRefused accesses scope depth (conditional (inner u) q) (w, suc steps) e after
    unreferable_is_refused e is = not_sought accesses scope depth w steps (inner u) q after e (unreferable_sought e is)

  pub debug_is_refused : (after : State S × ℕ) → NamesAt accesses scope depth (w, steps) (inner u) targets.Nowhere after → IsRefused accesses scope depth (conditional (inner u) q) (w, suc steps) (refusal.Value WrongType) after
  debug_is_refused after names = unreferable_is_refused targets.Nowhere after names (refusal.Value WrongType) (debug_refers_to_none after.0)

  module _ (e : Refusal) (after : State S × ℕ) (none : NamesNone accesses scope depth (w, steps) (inner u) e after) where
    none_sought : term_sought ≡ (Err e, after)
    unfolding sought_target go_on ◌>>=◌
    none_sought = rw (no_target_so accesses scope depth (conditional (inner u) q) 0 (inner u) refl (w, steps) e after none) refl

    pub none_is_refused : IsRefused accesses scope depth (conditional (inner u) q) (w, suc steps) e after
    none_is_refused = not_sought accesses scope depth w steps (inner u) q after e none_sought
