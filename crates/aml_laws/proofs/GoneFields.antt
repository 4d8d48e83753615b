-- A field of which a part is gone is refused as dead.
use Rattle.std.specs.Prelude.{◌≡◌, ℕ, List, Option, Some, None, Ok, Err, refl}
use Rattle.std.specs.FinMap.{get, entries, entries_sorted, get-entries}
use Rattle.std.proofs.Common.{◌⊎◌, inl, inr, ap, ◌∙◌}
use Rattle.ar_space.specs.declared.refusal.EvaluationFault.TheVariants.{DeadReference}
use Rattle.ar_space.specs.declared.refusal.Refusal.TheVariants as refusal
use Rattle.ar_space.specs.Accesses.{Accesses}
use Rattle.ar_space.specs.Outcome.{Outcome}
use Rattle.ar_space.specs.Change.{settle, go_on, ◌>>=◌}
use Rattle.aml_path.specs.declared.segment.Seg.{Seg}
use Rattle.aml_objects.specs.declared.entry.Bank.{Bank}
use Rattle.aml_objects.specs.declared.entry.Entry.{Entry}
use Rattle.aml_objects.specs.declared.entry.FieldSource.{FieldSource}
use Rattle.aml_objects.specs.declared.entry.FieldSource.TheVariants as sources
use Rattle.aml_objects.specs.declared.entry.FieldUnit.{FieldUnit}
use Rattle.aml_objects.specs.declared.entry.NamedObject.{NamedObject}
use Rattle.aml_objects.specs.declared.entry.NamedObject.TheVariants as object
use Rattle.aml_objects.specs.declared.entry.OperationRegion.{OperationRegion}
use Rattle.aml_namespace.specs.Namespace.{Map, numbered}
use Rattle.aml_world.specs.declared.fields.regions.RegionField.{RegionField}
use Rattle.aml_world.specs.fields.Regions.{region_of_object, region_declared, region_field, field_of_object, field_declared}
use Rattle.aml_world.specs.values.StoreTargets.{declaration}
use Rattle.aml_world.specs.state.State.{State}
use Rattle.aml_world.specs.state.Run.{Run, lift}
use Rattle.aml_world.specs.fields.Fields.{located, region_bits, region_written, index_bits, index_written, bank_bits, bank_written}
use Rattle.aml_laws.specs.Histories.{numbered_entry}
use Rattle.aml_laws.specs.GoneFields.{RegionGone, FieldGone, IsDead}
use Rattle.aml_laws.proofs.DeclarationNumbers.{with_number_stands}
use Rattle.aml_laws.proofs.FieldSources.{in_region, by_index, in_bank}

-- ---- what is gone

-- what has a number stands at a path
numbered_at : (m : Map) (n : ℕ) (x : List Seg × Entry) → numbered n m ≡ Some x → get m x.0 ≡ Some (numbered_entry n x.1.object)
unfolding numbered
numbered_at m n x is =
    let at = with_number_stands n (entries m) x (entries_sorted m) is in
    get-entries m x.0 ∙ at.there ∙ ap (λ k. Some (numbered_entry k x.1.object)) at.number

no_region : (o : NamedObject) → ((region : OperationRegion) → o ≡ object.OperationRegion region → ⊥) → region_of_object o ≡ Err (refusal.Evaluation DeadReference)
no_region (object.OperationRegion r) none = absurd (none r refl)
no_region _ none = refl

-- a field of an operation region, or none
abbrev FoundOrDead : Outcome RegionField → Type 0
FoundOrDead x = ((found : RegionField) × (x ≡ Ok found)) ⊎ (x ≡ Err (refusal.Evaluation DeadReference))

source_found : (source : FieldSource) (u : FieldUnit) → FoundOrDead (region_field source u)
source_found (sources.Region n) u = inl (record { region = n; unit = u }, refl)
source_found (sources.Index i d) u = inr refl
source_found (sources.Bank n b) u = inr refl

object_found : (o : NamedObject) → FoundOrDead (field_of_object o)
object_found (object.FieldUnit u) = source_found u.source u
object_found _ = inr refl

no_field_of : (source : FieldSource) (u : FieldUnit) → ((region : ℕ) → source ≡ sources.Region region → ⊥) → region_field source u ≡ Err (refusal.Evaluation DeadReference)
no_field_of (sources.Region n) u none = absurd (none n refl)
no_field_of (sources.Index i d) u none = refl
no_field_of (sources.Bank n b) u none = refl

no_field : (o : NamedObject) → ((u : FieldUnit) (region : ℕ) → o ≡ object.FieldUnit u → u.source ≡ sources.Region region → ⊥) → field_of_object o ≡ Err (refusal.Evaluation DeadReference)
no_field (object.FieldUnit u) none = no_field_of u.source u (λ region is. none u region refl is)
no_field _ none = refl

module _ {S : Type 0} (w : State S) (n : ℕ) where
  region_by_cases : (o : Option (List Seg × Entry)) → numbered n w.names.map ≡ o → RegionGone w n → region_declared n w ≡ (Err (refusal.Evaluation DeadReference), w)
  unfolding region_declared declaration settle go_on ◌>>=◌
  region_by_cases None is gone = rw is refl
  region_by_cases (Some x) is gone =
      let at = numbered_at w.names.map n x is in
      let dead = no_region x.1.object (λ region same. gone x.0 region (at ∙ ap (λ o. Some (numbered_entry n o)) same)) in
      rw (is, dead) refl

  field_by_cases : (o : Option (List Seg × Entry)) → numbered n w.names.map ≡ o → FieldGone w n → field_declared n w ≡ (Err (refusal.Evaluation DeadReference), w)
  unfolding field_declared declaration settle go_on ◌>>=◌
  field_by_cases None is gone = rw is refl
  field_by_cases (Some x) is gone =
      let at = numbered_at w.names.map n x is in
      let dead = no_field x.1.object (λ u region same from. gone x.0 u region (at ∙ ap (λ o. Some (numbered_entry n o)) same) from) in
      rw (is, dead) refl

  found_by_cases : (o : Option (List Seg × Entry)) → numbered n w.names.map ≡ o → (x : Outcome RegionField) × (field_declared n w ≡ (x, w)) × FoundOrDead x
  unfolding field_declared declaration settle go_on ◌>>=◌
  found_by_cases None is = (Err (refusal.Evaluation DeadReference), rw is refl, inr refl)
  found_by_cases (Some x) is = (field_of_object x.1.object, rw is refl, object_found x.1.object)

  module _ (steps : ℕ) where
    region_dead : RegionGone w n → lift (region_declared n) (w, steps) ≡ (Err (refusal.Evaluation DeadReference), (w, steps))
    unfolding lift
    region_dead gone = rw (region_by_cases (numbered n w.names.map) refl gone) refl

    field_dead : FieldGone w n → lift (field_declared n) (w, steps) ≡ (Err (refusal.Evaluation DeadReference), (w, steps))
    unfolding lift
    field_dead gone = rw (field_by_cases (numbered n w.names.map) refl gone) refl

    field_found : (x : Outcome RegionField) × (lift (field_declared n) (w, steps) ≡ (x, (w, steps))) × FoundOrDead x
    unfolding lift
    field_found = let f = found_by_cases (numbered n w.names.map) refl in (f.0, rw f.1 refl, f.2)

    pub located_nowhere : RegionGone w n → (accesses : Accesses S) (call : List Seg → Run S ℕ) → located accesses call n (w, steps) ≡ (Err (refusal.Evaluation DeadReference), (w, steps))
    unfolding located go_on ◌>>=◌
    located_nowhere gone accesses call = rw (region_dead gone) refl

-- ---- the field

-- what goes on behind a field is refused, whether it is found or not
behind_field : {S A : Type 0} (s : State S × ℕ) (x : Outcome RegionField) (k : RegionField → Run S A) → FoundOrDead x → ((f : RegionField) → k f s ≡ (Err (refusal.Evaluation DeadReference), s)) → go_on x s k ≡ (Err (refusal.Evaluation DeadReference), s)
unfolding go_on
behind_field s (Ok f) k found all = all f
behind_field s (Err e) k (inl found) all = absurd (cc found.1)
behind_field s (Err e) k (inr is) all = let same : e ≡ refusal.Evaluation DeadReference = cc is in ap (λ x. (Err x, s)) same

module _ {S : Type 0} (w : State S) (n : ℕ) where
  pub of_region : RegionGone w n → (accesses : Accesses S) (call : List Seg → Run S ℕ) (f : FieldUnit) (steps : ℕ) → f.source ≡ sources.Region n → IsDead accesses call f (w, steps)
  unfolding region_bits region_written go_on ◌>>=◌
  of_region gone accesses call f steps source =
      let nowhere = located_nowhere w n steps gone accesses call in
      record {
        unread = ap (λ m. m (w, steps)) (in_region accesses call f n source).0 ∙ rw nowhere refl;
        unwritten = λ bytes. ap (λ m. m (w, steps)) ((in_region accesses call f n source).1 bytes) ∙ rw nowhere refl;
      }

  pub of_index : FieldGone w n → (accesses : Accesses S) (call : List Seg → Run S ℕ) (f : FieldUnit) (d steps : ℕ) → f.source ≡ sources.Index n d → IsDead accesses call f (w, steps)
  unfolding index_bits index_written go_on ◌>>=◌
  of_index gone accesses call f d steps source =
      let dead = field_dead w n steps gone in
      record {
        unread = ap (λ m. m (w, steps)) (by_index accesses call f n d source).0 ∙ rw dead refl;
        unwritten = λ bytes. ap (λ m. m (w, steps)) ((by_index accesses call f n d source).1 bytes) ∙ rw dead refl;
      }

  pub of_data : FieldGone w n → (accesses : Accesses S) (call : List Seg → Run S ℕ) (f : FieldUnit) (i steps : ℕ) → f.source ≡ sources.Index i n → IsDead accesses call f (w, steps)
  unfolding index_bits index_written go_on ◌>>=◌
  of_data gone accesses call f i steps source =
      let dead = field_dead w n steps gone in
      let index = field_found w i steps in
      record {
        unread = ap (λ m. m (w, steps)) (by_index accesses call f i n source).0 ∙ rw index.1 (behind_field (w, steps) index.0 _ index.2 (λ found. rw dead refl));
        unwritten = λ bytes. ap (λ m. m (w, steps)) ((by_index accesses call f i n source).1 bytes) ∙ rw index.1 (behind_field (w, steps) index.0 _ index.2 (λ found. rw dead refl));
      }

  pub of_region_of_bank : RegionGone w n → (accesses : Accesses S) (call : List Seg → Run S ℕ) (f : FieldUnit) (bank : Bank) (steps : ℕ) → f.source ≡ sources.Bank n bank → IsDead accesses call f (w, steps)
  unfolding bank_bits bank_written go_on ◌>>=◌
  of_region_of_bank gone accesses call f bank steps source =
      let nowhere = located_nowhere w n steps gone accesses call in
      let held = field_found w bank.field steps in
      record {
        unread = ap (λ m. m (w, steps)) (in_bank accesses call f n bank source).0 ∙ rw held.1 (behind_field (w, steps) held.0 _ held.2 (λ found. rw nowhere refl));
        unwritten = λ bytes. ap (λ m. m (w, steps)) ((in_bank accesses call f n bank source).1 bytes) ∙ rw held.1 (behind_field (w, steps) held.0 _ held.2 (λ found. rw nowhere refl));
      }

pub of_bank : {S : Type 0} (w : State S) (bank : Bank) → FieldGone w bank.field → (accesses : Accesses S) (call : List Seg → Run S ℕ) (f : FieldUnit) (n steps : ℕ) → f.source ≡ sources.Bank n bank → IsDead accesses call f (w, steps)
unfolding bank_bits bank_written go_on ◌>>=◌
of_bank w bank gone accesses call f n steps source =
    let dead = field_dead w bank.field steps gone in
    record {
      unread = ap (λ m. m (w, steps)) (in_bank accesses call f n bank source).0 ∙ rw dead refl;
      unwritten = λ bytes. ap (λ m. m (w, steps)) ((in_bank accesses call f n bank source).1 bytes) ∙ rw dead refl;
    }
