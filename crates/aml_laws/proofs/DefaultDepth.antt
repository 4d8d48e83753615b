-- By default no depth is refused as one that the setting doesn't allow.
use Rattle.std.specs.Prelude.{◌≡◌, ◌≤◌, ℕ, List, false, ◌||◌, nat_lt, refl}
use Rattle.std.proofs.Common.{arith, sym, subst, ◌∙◌}
use Rattle.std.proofs.lemmas.Bool.Decides.{nat_tests}
use Rattle.ar_space.specs.Accesses.{Accesses}
use Rattle.ar_space.specs.Outcome.{Outcome}
use Rattle.aml_path.specs.declared.segment.Seg.{Seg}
use Rattle.aml_objects.specs.declared.value.Value.{Value}
use Rattle.aml_world.specs.declared.state.settings.Nesting.{Nesting}
use Rattle.aml_world.specs.state.Given.{Given}
use Rattle.aml_world.specs.state.State.{State}
use Rattle.aml_meaning.specs.Tasks.{Task}
use Rattle.aml_meaning.specs.Meaning.{meaning}
use Rattle.aml_meaning.specs.Calling.{loaded, evaluated, answered}
use Rattle.aml_laws.specs.Becomes as becomes
use Rattle.aml_laws.specs.Deepened.{IsDepthSetting}
use Rattle.aml_laws.proofs.FaultsOfEvaluations.{loaded_explains, evaluated_explains, answered_explains}
use Rattle.aml_laws.proofs.FaultsOfTerms.{meaning_explains}
use Rattle.aml_laws.proofs.NestingKept.{nesting_is_kept}
use Rattle.aml_laws.proofs.SetDepths.{OfSetting, is_low}

not_low : (d : Nesting) → 32 ≤ d.calls → 64 ≤ d.levels → is_low d ≡ false
not_low d calls levels =
    let many : nat_lt d.calls 32 ≡ false = grind (arith, nat_tests, calls) in
    let deep : nat_lt d.levels 64 ≡ false = grind (arith, nat_tests, levels) in
    rw (many, deep) refl

-- after: the depth of the world that is left, which is that of the world before
pub never_set : {A : Type 0} (x : Outcome A) (before after : Nesting) → after ≡ before → OfSetting x (is_low after) → 32 ≤ before.calls → 64 ≤ before.levels → IsDepthSetting x → ⊥
never_set {A = A} x before after same h calls levels e =
    let low = subst (λ (y : Outcome A). OfSetting y (is_low after)) e h in
    absurd (cc (sym low ∙ subst (λ (d : Nesting). is_low d ≡ false) (sym same) (not_low before calls levels)))

module _ {S : Type 0} (accesses : Accesses S) where
  pub term_never_set : (t : Task) (s : State S × ℕ) → 32 ≤ s.0.nesting.calls → 64 ≤ s.0.nesting.levels → IsDepthSetting (meaning accesses t s).0 → ⊥
  term_never_set t s = never_set _ s.0.nesting _ (nesting_is_kept accesses s.0 _ (becomes.term s.0 t s.1 becomes.same)) ((meaning_explains accesses t).set s)

  pub table_never_set : (bytes : List ℕ) (steps : ℕ) (w : State S) → 32 ≤ w.nesting.calls → 64 ≤ w.nesting.levels → IsDepthSetting (loaded accesses bytes steps w).0 → ⊥
  table_never_set bytes steps w = never_set _ w.nesting _ (nesting_is_kept accesses w _ (becomes.table w bytes steps becomes.same)) ((loaded_explains accesses bytes steps).set w)

  pub value_never_set : (p : List Seg) (arguments : List Value) (steps : ℕ) (w : State S) → 32 ≤ w.nesting.calls → 64 ≤ w.nesting.levels → IsDepthSetting (evaluated accesses p arguments steps w).0 → ⊥
  value_never_set p arguments steps w = never_set _ w.nesting _ (nesting_is_kept accesses w _ (becomes.value w p arguments steps becomes.same)) ((evaluated_explains accesses p arguments steps).set w)

  pub answer_never_set : (p : List Seg) (arguments : List Given) (steps : ℕ) (w : State S) → 32 ≤ w.nesting.calls → 64 ≤ w.nesting.levels → IsDepthSetting (answered accesses p arguments steps w).0 → ⊥
  answer_never_set p arguments steps w = never_set _ w.nesting _ (nesting_is_kept accesses w _ (becomes.answer w p arguments steps becomes.same)) ((answered_explains accesses p arguments steps).set w)

pub ruleset no_depth_is_refused_for_the_default_setting = (term_never_set, table_never_set, value_never_set, answer_never_set)
