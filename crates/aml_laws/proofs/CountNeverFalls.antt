-- The count of the terms that have begun never falls, however an evaluation ends, and a term that begins adds at least one.
use Rattle.std.specs.Prelude.{◌≡◌, ℕ, zero, suc, ◌≤◌, ◌<◌, List, true, false, refl}
use Rattle.std.proofs.Common.{arith}
use Rattle.ar_space.specs.Accesses.{Accesses}
use Rattle.aml_path.specs.declared.segment.Seg.{Seg}
use Rattle.aml_grammar.specs.Tree.{Trees}
use Rattle.aml_objects.specs.declared.entry.FieldUnit.{FieldUnit}
use Rattle.aml_objects.specs.declared.entry.OperationRegion.{OperationRegion}
use Rattle.aml_objects.specs.declared.value.Value.{Value}
use Rattle.aml_fields.specs.declared.region.AddressSpace.{AddressSpace}
use Rattle.aml_world.specs.state.State.{State}
use Rattle.aml_meaning.specs.Tasks.{Task, in_turn}
use Rattle.aml_meaning.specs.Calls.{invoked}
use Rattle.aml_laws.specs.Counted.{beside_counter, terms_begun, one_more_begun, counted_within, counted_meaning}
use Rattle.aml_laws.specs.RegionAccesses.{ReachedWithin}
use Rattle.aml_laws.specs.RegionAccesses as by
use Rattle.aml_laws.proofs.WorldRelations.{WorldRelation, RunPreserves, never_told, plain}
use Rattle.aml_laws.proofs.OperandsAndCallsPreserve.{in_turn_preserves, invoked_preserves_from}
use Rattle.aml_laws.proofs.RulesPreserve.{rule_preserves}

module _ {S : Type 0} (accesses : Accesses S) where
  -- no access reaches the counter
  same_counter : (field : FieldUnit) (region : OperationRegion) (space : AddressSpace) (s t : S × ℕ) → ReachedWithin (beside_counter accesses) field region space s t → t.1 ≡ s.1
  unfolding beside_counter
  same_counter field region space s t by.none = refl
  same_counter field region space s t (by.read u at width lies unit is r) = same_counter field region space s u r
  same_counter field region space s t (by.written u at width value lies unit is r) = same_counter field region space s u r

  no_fewer_begun_relation : WorldRelation (beside_counter accesses)
  unfolding beside_counter
  no_fewer_begun_relation = plain (record {
    Leads = λ w v. w.space.1 ≤ v.space.1;
    reflexive = λ w. omega arith;
    transitive = λ u v w h i. omega (arith, h, i);
    objects_change = λ w h k. omega arith;
    name_declared = λ w q o free. omega arith;
    object_replaced = λ w q o e at is. omega arith;
    slots_written = λ w frames is. omega arith;
    frame_closed = λ w v vs h. h;
    names_removed = λ u w q at h. h;
    told = false;
    region_accessed = λ u w field region space s stands at r h. let e = same_counter field region space w.space s r in omega (arith, e, h);
    bridge_asked = λ u w at width wide asks h. h;
    loads = true;
    arities_set = λ loads w list. omega arith;
    mutexes_released = λ w. omega arith;
    passed_noted = λ listed u w scope e wide is h. h;
  })

  -- ---- terms

  -- a term that begins, where no part of it lets the count fall
  begun_adds_one : (n : ℕ) (t : Task) (w : State (S × ℕ)) (b : ℕ) → ((u : Task) → RunPreserves no_fewer_begun_relation (counted_within accesses n u)) → terms_begun w < terms_begun (counted_within accesses (suc n) t (w, suc b)).1.0
  unfolding counted_within no_fewer_begun_relation
  begun_adds_one n t w b parts = let r = (rule_preserves (counted_within accesses n) parts never_told t).preserves (one_more_begun w, b) in omega (arith, r)

  within_never_falls : (n : ℕ) (t : Task) (w : State (S × ℕ)) (b : ℕ) → terms_begun w ≤ terms_begun (counted_within accesses n t (w, b)).1.0
  unfolding counted_within no_fewer_begun_relation
  within_never_falls zero t w b = omega arith
  within_never_falls (suc n) t w zero = omega arith
  within_never_falls (suc n) t w (suc b) = let l = begun_adds_one n t w b (λ u. record { preserves = λ s. within_never_falls n u s.0 s.1 }) in omega (arith, l)

  meaning_never_falls : (t : Task) → RunPreserves no_fewer_begun_relation (counted_meaning accesses t)
  unfolding counted_meaning no_fewer_begun_relation
  meaning_never_falls t = record { preserves = λ s. within_never_falls s.1 t s.0 s.1 }

  meaning_adds_one : (t : Task) (w : State (S × ℕ)) (b : ℕ) → 0 < b → terms_begun w < terms_begun (counted_meaning accesses t (w, b)).1.0
  unfolding counted_meaning no_fewer_begun_relation
  meaning_adds_one t w zero h = absurd (omega (arith, h))
  meaning_adds_one t w (suc b) h = begun_adds_one b t w b (λ u. record { preserves = λ s. within_never_falls b u s.0 s.1 })

-- ---- what the law says

module _ {S : Type 0} (accesses : Accesses S) where
  pub term_never_lowers_count : (t : Task) (s : State (S × ℕ) × ℕ) → terms_begun s.0 ≤ terms_begun (counted_meaning accesses t s).1.0
  unfolding no_fewer_begun_relation
  term_never_lowers_count t s = (meaning_never_falls accesses t).preserves s

  pub term_raises_count : (t : Task) (s : State (S × ℕ) × ℕ) → 0 < s.1 → terms_begun s.0 < terms_begun (counted_meaning accesses t s).1.0
  term_raises_count t s h = meaning_adds_one accesses t s.0 s.1 h

  pub list_never_lowers_count : (scope : List Seg) (depth : ℕ) (ts : Trees) (s : State (S × ℕ) × ℕ) → terms_begun s.0 ≤ terms_begun (in_turn (counted_meaning accesses) scope depth ts s).1.0
  unfolding no_fewer_begun_relation
  list_never_lowers_count scope depth ts s = (in_turn_preserves {relation = no_fewer_begun_relation accesses} (counted_meaning accesses) (meaning_never_falls accesses) never_told scope depth ts).preserves s

  pub call_never_lowers_count : (depth : ℕ) (p : List Seg) (body : List ℕ) (arguments : List Value) (s : State (S × ℕ) × ℕ) → terms_begun s.0 ≤ terms_begun (invoked (counted_meaning accesses) depth p body arguments s).1.0
  unfolding no_fewer_begun_relation
  call_never_lowers_count depth p body arguments s = (invoked_preserves_from {relation = no_fewer_begun_relation accesses} (counted_meaning accesses) (meaning_never_falls accesses) never_told s.0 depth p body arguments (λ v l. l)).preserves_from s (omega arith)
