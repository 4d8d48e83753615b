-- The predefined names are declared without an access of the register space.
use Rattle.std.proofs.Common.{◌≡◌, ℕ, List, Ok, Err, refl, ◌∙◌}
use Rattle.ar_space.specs.Outcome.{Outcome}
use Rattle.ar_space.specs.Change.{Change, settle, go_on, ◌>>=◌}
use Rattle.aml_path.specs.declared.segment.Seg.{Seg}
use Rattle.aml_objects.specs.declared.entry.NamedObject.{NamedObject}
use Rattle.aml_objects.specs.Objects.{Objects}
use Rattle.aml_namespace.specs.Namespace.{Namespace}
use Rattle.aml_world.specs.state.State.{State, on_objects, on_names}
use Rattle.aml_world.specs.state.Predefined.{takes, at_root, predefined_scopes, predefined_objects, predefined}

-- the register space is as it was, and nothing is passed over
record Keeps {S A : Type 0} (m : Change (State S) A) : Type 0 where
  is : (w : State S) → (m w).1.space ≡ w.space
  passed : (w : State S) → (m w).1.passed ≡ w.passed

gone_on : {S A B : Type 0} (r : Outcome A) (w : State S) (k : A → Change (State S) B) → ((a : A) → Keeps (k a)) → (go_on r w k).1.space ≡ w.space
unfolding go_on
gone_on (Ok a) w k h = (h a).is w
gone_on (Err e) w k h = refl

gone_on_passed : {S A B : Type 0} (r : Outcome A) (w : State S) (k : A → Change (State S) B) → ((a : A) → Keeps (k a)) → (go_on r w k).1.passed ≡ w.passed
unfolding go_on
gone_on_passed (Ok a) w k h = (h a).passed w
gone_on_passed (Err e) w k h = refl

module _ {S : Type 0} where
  kept_then : {A B : Type 0} (m : Change (State S) A) (k : A → Change (State S) B) → Keeps m → ((a : A) → Keeps (k a)) → Keeps (m >>= k)
  unfolding ◌>>=◌
  kept_then m k h i = record { is = λ w. gone_on (m w).0 (m w).1 k i ∙ h.is w; passed = λ w. gone_on_passed (m w).0 (m w).1 k i ∙ h.passed w }

  kept_settle : {A : Type 0} (x : Outcome A) → Keeps {S = S} (settle x)
  unfolding settle
  kept_settle x = record { is = λ w. refl; passed = λ w. refl }

  kept_names : {A : Type 0} (m : Change Namespace A) → Keeps {S = S} (on_names m)
  unfolding on_names
  kept_names m = record { is = λ w. refl; passed = λ w. refl }

  kept_objects : {A : Type 0} (m : Change Objects A) → Keeps {S = S} (on_objects m)
  unfolding on_objects
  kept_objects m = record { is = λ w. refl; passed = λ w. refl }

  kept_takes : (p : List Seg) (n : ℕ) → Keeps {S = S} (takes p n)
  unfolding takes
  kept_takes p n = record { is = λ w. refl; passed = λ w. refl }

  kept_at_root : (text : List ℕ) (o : NamedObject) (n : ℕ) → Keeps {S = S} (at_root text o n)
  unfolding at_root
  kept_at_root text o n =
      kept_then _ _ (kept_settle _) (λ s. kept_then _ _ (kept_settle _) (λ p. kept_then _ _ (kept_names _) (λ _. kept_then _ _ (kept_settle _) (λ q. kept_takes q n))))

  kept_scopes : Keeps {S = S} predefined_scopes
  unfolding predefined_scopes
  kept_scopes =
      kept_then _ _ (kept_at_root _ _ _) (λ _. kept_then _ _ (kept_at_root _ _ _) (λ _. kept_then _ _ (kept_at_root _ _ _) (λ _. kept_then _ _ (kept_at_root _ _ _) (λ _. kept_at_root _ _ _))))

  kept_named_objects : Keeps {S = S} predefined_objects
  unfolding predefined_objects
  kept_named_objects =
      kept_then _ _ (kept_at_root _ _ _) (λ _. kept_then _ _ (kept_objects _) (λ text. kept_then _ _ (kept_at_root _ _ _) (λ _. kept_then _ _ (kept_at_root _ _ _) (λ _. kept_at_root _ _ _))))

  pub predefined_keeps : (w : State S) → (predefined w).1.space ≡ w.space
  unfolding predefined
  predefined_keeps w = (kept_then predefined_scopes (λ _. predefined_objects) kept_scopes (λ _. kept_named_objects)).is w

  pub predefined_passes : (w : State S) → (predefined w).1.passed ≡ w.passed
  unfolding predefined
  predefined_passes w = (kept_then predefined_scopes (λ _. predefined_objects) kept_scopes (λ _. kept_named_objects)).passed w
