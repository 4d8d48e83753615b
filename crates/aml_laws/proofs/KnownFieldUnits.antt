-- Evaluations that access registers of field units that are known, and of those that are found to stand.
use Rattle.std.specs.Prelude.{◌≡◌, ℕ, List, [], ◌∷◌, ◌++◌, Bool, Ok, Err, refl}
use Rattle.std.proofs.lemmas.List.Elements.{All-nil, All-head, All-tail}
use Rattle.ar_space.specs.Accesses.{Accesses}
use Rattle.ar_space.specs.Outcome.{Outcome}
use Rattle.ar_space.specs.Change.{give, go_on, ◌>>=◌}
use Rattle.aml_objects.specs.declared.entry.FieldUnit.{FieldUnit}
use Rattle.aml_world.specs.state.State.{State}
use Rattle.aml_world.specs.state.Run.{Run}
use Rattle.aml_laws.specs.Histories.{FieldUnitStands}
use Rattle.aml_laws.proofs.Preorders.{Respects, then_respects}
use Rattle.aml_laws.proofs.FieldUnitsFound.{RunFinds}
use Rattle.aml_laws.proofs.WorldRelations.{WorldRelationOf, RunPreserves, RunPreservesFrom, RunPreservesBy, known_preorder, FieldUnitsStand, run_give_preserves}

-- worlds that are related, where some field units are known
record RelatedBy {S : Type 0} {listed : Bool} {accesses : Accesses S} (relation : WorldRelationOf listed accesses) (known : List FieldUnit) (w v : State S) : Type 0 where
  leads : relation.LeadsBy known w v

module _ {S : Type 0} {listed : Bool} {accesses : Accesses S} {relation : WorldRelationOf listed accesses} where
  pub by_respects : {A : Type 0} {known : List FieldUnit} {m : Run S A} → RunPreservesBy relation known m → Respects (known_preorder relation known) m
  by_respects h = record { respects = h.preserves_by }

  pub respects_by : {A : Type 0} {known : List FieldUnit} {m : Run S A} → Respects (known_preorder relation known) m → RunPreservesBy relation known m
  respects_by h = record { preserves_by = h.respects }

  -- what accesses none of them itself
  pub by_any : {A : Type 0} (known : List FieldUnit) (m : Run S A) → RunPreserves relation m → RunPreservesBy relation known m
  by_any known m h = record { preserves_by = λ s. relation.by_any known s.0 _ (h.preserves s) }

  pub none_known : {A : Type 0} (m : Run S A) → RunPreservesBy relation [] m → RunPreserves relation m
  none_known m h = record { preserves = λ s. relation.by_none s.0 _ (h.preserves_by s) }

  pub give_by : {A : Type 0} {known : List FieldUnit} (a : A) → RunPreservesBy relation known (give a)
  give_by {known = known} a = by_any known _ (run_give_preserves a)

  pub then_by : {A B : Type 0} {known : List FieldUnit} (m : Run S A) (k : A → Run S B) → RunPreservesBy relation known m → ((a : A) → RunPreservesBy relation known (k a)) → RunPreservesBy relation known (m >>= k)
  then_by m k h each = respects_by (then_respects m k (by_respects h) (λ a. by_respects (each a)))

  -- those that stand are known from there on
  standing : (units known : List FieldUnit) (w v : State S) → FieldUnitsStand w.names.map units → RelatedBy relation (units ++ known) w v → RelatedBy relation known w v
  standing [] known w v all h = h
  standing (x ∷ units) known w v all h = standing units known w v (All-tail (FieldUnitStands w.names.map) x units all) (record { leads = relation.by_standing (units ++ known) w v x (All-head (FieldUnitStands w.names.map) x units all) h.leads })

  found_by_cases : {A B : Type 0} (Such : A → Type 0) (units : A → List FieldUnit) (known : List FieldUnit) (s t : State S × ℕ) (r : Outcome A) (k : A → Run S B) → ((a : A) → r ≡ Ok a → FieldUnitsStand t.0.names.map (units a)) → ((a : A) → r ≡ Ok a → Such a)
      → ((a : A) → Such a → RunPreservesBy relation (units a ++ known) (k a)) → relation.LeadsBy known s.0 t.0 → relation.LeadsBy known s.0 (go_on r t k).1.0
  unfolding go_on
  found_by_cases Such units known s t (Ok a) k stand gives each h = relation.by_transitive known s.0 t.0 _ h (standing (units a) known t.0 _ (stand a refl) (record { leads = (each a (gives a refl)).preserves_by t })).leads
  found_by_cases Such units known s t (Err e) k stand gives each h = h

  -- what is found is such, and is known where it goes on
  pub such_found_then : {A B : Type 0} (Such : A → Type 0) {units : A → List FieldUnit} (known : List FieldUnit) (m : Run S A) (k : A → Run S B) → RunPreservesBy relation known m → RunFinds units m → ((s : State S × ℕ) (a : A) → (m s).0 ≡ Ok a → Such a)
      → ((a : A) → Such a → RunPreservesBy relation (units a ++ known) (k a)) → RunPreservesBy relation known (m >>= k)
  unfolding ◌>>=◌
  such_found_then Such {units = units} known m k h finds gives each = record { preserves_by = λ s. found_by_cases Such units known s (m s).1 (m s).0 k (finds.finds s (All-nil _)) (gives s) each (h.preserves_by s) }

  pub found_then_by : {A B : Type 0} {units : A → List FieldUnit} (known : List FieldUnit) (m : Run S A) (k : A → Run S B) → RunPreservesBy relation known m → RunFinds units m → ((a : A) → RunPreservesBy relation (units a ++ known) (k a)) → RunPreservesBy relation known (m >>= k)
  found_then_by known m k h finds each = such_found_then (λ a. Unit {0}) known m k h finds (λ s a e. tt) (λ a so. each a)

  pub found_then : {A B : Type 0} {units : A → List FieldUnit} (m : Run S A) (k : A → Run S B) → RunPreserves relation m → RunFinds units m → ((a : A) → RunPreservesBy relation (units a ++ []) (k a)) → RunPreserves relation (m >>= k)
  found_then m k h finds each = none_known _ (found_then_by [] m k (by_any [] m h) finds each)

  -- what comes from where they stood
  pub from_standing : {A : Type 0} (u : State S) (units : List FieldUnit) (m : Run S A) → FieldUnitsStand u.names.map units → RunPreservesBy relation (units ++ []) m → RunPreservesFrom relation u m
  from_standing u units m stand h = record { preserves_from = λ s l. relation.by_none u _ (standing units [] u _ stand (record { leads = relation.by_transitive (units ++ []) u s.0 _ (relation.by_any (units ++ []) u s.0 l) (h.preserves_by s) })).leads }
