-- No table is refused by what may be passed over in the wide profile.
use Rattle.std.specs.Prelude.{◌≡◌, ℕ, ◌-◌, ◌^◌, ◌==◌, List, [], Bool, true, false, replicate, nat_lt, Ok, Err, refl, if◌then◌else◌}
use Rattle.std.proofs.Common.{ap, sym, ◌∙◌}
use Rattle.ar_space.specs.declared.refusal.EvaluationFault.TheVariants.{ObjectLimit}
use Rattle.ar_space.specs.declared.refusal.Refusal.{Refusal}
use Rattle.ar_space.specs.declared.refusal.Refusal.TheVariants as refusal
use Rattle.ar_space.specs.Accesses.{Accesses}
use Rattle.ar_space.specs.Change.{Change, give, go_on, ◌>>=◌}
use Rattle.ar_space.specs.Outcome.{Outcome}
use Rattle.aml_arities.specs.declared.arities.Arity.{Arity}
use Rattle.aml_grammar.specs.Grammar.{max_depth, table_reading_within}
use Rattle.aml_grammar.specs.Tree.{Tree, Trees}
use Rattle.aml_objects.specs.declared.value.Value.{Value}
use Rattle.aml_objects.specs.declared.value.Value.TheVariants as value
use Rattle.aml_world.specs.declared.state.profile.Profile.TheVariants as profiles
use Rattle.aml_world.specs.state.PassedOver.{is_passable}
use Rattle.aml_world.specs.state.Slots.{opened}
use Rattle.aml_world.specs.state.State.{State}
use Rattle.aml_meaning.specs.Calling.{ending, with_steps, framed, in_frame, terms_kept, table_terms, at_root, table_run, loaded}
use Rattle.aml_meaning.specs.Meaning.{meaning}
use Rattle.aml_meaning.specs.Tasks.{in_turn}
use Rattle.aml_laws.proofs.ListsGoOn.{list_ends_for_good}
use Rattle.aml_laws.proofs.ReadingRefusals.{table_reading_within_reads}
use Rattle.aml_laws.proofs.TermRefusals.{ReadsWithin, not_passable}

abbrev ForGood : {A : Type 0} → Outcome A → Type 0
ForGood r = (e : Refusal) → r ≡ Err e → is_passable e ≡ false

given_for_good : {H A B : Type 0} (r : Outcome A) (s : H) (b : B) → ForGood r → ForGood (go_on r s (λ last. give b)).0
unfolding go_on give
given_for_good (Ok f) s b h e is = absurd (cc is)
given_for_good (Err x) s b h e is = let same : x ≡ e = cc is in ap is_passable (sym same) ∙ h x refl

-- a change of worlds that is refused for good in the wide profile
abbrev EndsForGood : {S A : Type 0} → Change (State S) A → Type 0
EndsForGood {S} m = (w : State S) → w.profile ≡ profiles.Wide → ForGood (m w).0

module _ {S : Type 0} (accesses : Accesses S) where
  root_ends : (ts : Trees) (s : State S × ℕ) → s.0.profile ≡ profiles.Wide → ForGood (at_root accesses ts s).0
  unfolding at_root ◌>>=◌
  root_ends ts s wide = given_for_good (in_turn (meaning accesses) [] 0 ts s).0 (in_turn (meaning accesses) [] 0 ts s).1 tt (list_ends_for_good accesses [] ts s wide)

  opened_by : (b : Bool) (vs : List Value) (m : Change (State S) (Unit {0})) (w v : State S) → EndsForGood m → v.profile ≡ profiles.Wide
      → ForGood (go_on (if◌then◌else◌ {A = Outcome ℕ × State S} b (Err (refusal.Evaluation ObjectLimit), w) (Ok w.started, v)).0 (if◌then◌else◌ {A = Outcome ℕ × State S} b (Err (refusal.Evaluation ObjectLimit), w) (Ok w.started, v)).1 (λ number. framed m)).0
  unfolding go_on framed
  opened_by true vs m w v h wide e is = let same : ◌≡◌ {A = Refusal} (refusal.Evaluation ObjectLimit) e = cc is in ap is_passable (sym same)
  opened_by false vs m w v h wide e is = h v wide e is

  frame_ends : (vs : List Value) (m : Change (State S) (Unit {0})) → EndsForGood m → EndsForGood (in_frame vs m)
  unfolding in_frame opened ◌>>=◌
  frame_ends vs m h w wide = opened_by (w.started == 2 ^ 64 - 1) vs m w _ h wide

  terms_by : (low : Bool) (r : Outcome (List Tree × List Arity)) (w : State S) (k : Trees → Change (State S) (Unit {0})) → w.profile ≡ profiles.Wide → ReadsWithin low r → ((ts : Trees) → EndsForGood (k ts)) → ForGood (go_on (terms_kept r w).0 (terms_kept r w).1 k).0
  unfolding go_on
  terms_by low (Ok (ts, after)) w k wide h all e is = all _ (record w { arities = after }) wide e is
  terms_by low (Err x) w k wide h all e is = let same : x ≡ e = cc is in ap is_passable (sym same) ∙ not_passable low x h

  run_ends : (steps : ℕ) (bytes : List ℕ) → EndsForGood (table_run accesses steps bytes)
  unfolding table_run table_terms with_steps ◌>>=◌
  run_ends steps bytes w wide = terms_by (nat_lt w.nesting.levels max_depth) (table_reading_within w.nesting.levels bytes w.arities) w _ wide (table_reading_within_reads w.nesting.levels bytes w.arities) (λ ts. frame_ends (replicate 7 value.Uninitialized) _ (λ v wide. root_ends ts (v, steps) wide))

  pub table_ends_for_good : (bytes : List ℕ) (steps : ℕ) (w : State S) → w.profile ≡ profiles.Wide → (e : Refusal) → (loaded accesses bytes steps w).0 ≡ Err e → is_passable e ≡ false
  unfolding loaded ending
  table_ends_for_good bytes steps w wide = run_ends steps bytes w wide
