-- Where calls and terms may be deeper, an evaluation that isn't refused by the setting comes to the same: a run beside itself, of a greater
-- depth on the right.
use Rattle.std.specs.Prelude.{◌≡◌, ◌⊎◌, ℕ, List, true, Ok, Err, refl}
use Rattle.std.proofs.Common.{arith, inl, inr, ap, sym, ◌∙◌}
use Rattle.ar_space.specs.declared.refusal.Refusal.{Refusal}
use Rattle.ar_space.specs.declared.refusal.Refusal.TheVariants as refusal
use Rattle.ar_space.specs.declared.refusal.EvaluationFault.TheVariants.{DepthSetting}
use Rattle.ar_space.specs.Accesses.{Accesses}
use Rattle.ar_space.specs.Outcome.{Outcome}
use Rattle.ar_space.specs.Change.{Change}
use Rattle.aml_path.specs.declared.segment.Seg.{Seg}
use Rattle.aml_objects.specs.declared.value.Value.{Value}
use Rattle.aml_world.specs.declared.state.settings.Nesting.{Nesting}
use Rattle.aml_world.specs.state.PassedOver.{is_passable}
use Rattle.aml_world.specs.state.Given.{Given}
use Rattle.aml_world.specs.state.State.{State}
use Rattle.aml_meaning.specs.Tasks.{Task}
use Rattle.aml_meaning.specs.Meaning.{meaning}
use Rattle.aml_meaning.specs.Calling.{loaded, evaluated, answered}
use Rattle.aml_laws.specs.Deepened.{deeper_by, deepened, outcome_deepened, IsDepthSetting}
use Rattle.aml_laws.proofs.Together.{Sides, Shape, Together, Comes, IsEnded}
use Rattle.aml_laws.proofs.WorldsTogether.{worlds, runs, world_over}
use Rattle.aml_laws.proofs.Levels.{level, in_one_profile}
use Rattle.aml_laws.proofs.MeaningTogether.{meaning_together}
use Rattle.aml_laws.proofs.EvaluationsTogether.{loaded_together, evaluated_together, answered_together}
use Rattle.aml_laws.proofs.Widening.{same_space}

abbrev pub Sets : Refusal → Type 0
Sets e = e ≡ refusal.Evaluation DepthSetting

pub set_by : {A : Type 0} (r : Outcome A) → IsEnded Sets r → IsDepthSetting r
set_by (Ok a) h = absurd h
set_by (Err e) h = ap (λ x. Err x) h

pub never_passed : (e : Refusal) → is_passable e ≡ true → Sets e → ⊥
never_passed e holds h = absurd (cc (sym holds ∙ ap is_passable h))

module _ {S : Type 0} (accesses : Accesses S) (more : Nesting) where
  unfoldable pub deepening : Sides accesses accesses
  deepening = record {
    beside = same_space accesses;
    raise = (λ p. p, deeper_by more);
    Ends = Sets;
    wide_stays = refl;
    core_stays = inl refl;
    deepens = inr (refl, λ d. (omega arith, omega arith));
    more = λ n. n;
    more_next = λ n. refl;
    none_left = inl (λ n. refl);
    passes = inl (λ p. refl, never_passed);
  }

  pub in_one_world : {X Y A : Type 0} {shape : Shape S S X Y} {m : Change X A} {n : Change Y A} (depth : ℕ) → Together (level deepening depth) shape m n → Together deepening shape m n
  unfolding deepening
  in_one_world depth h = in_one_profile deepening depth (λ p. refl) never_passed refl h

  pub world_comes : {A : Type 0} (p q : Outcome A × State S) → Comes deepening worlds p q → IsDepthSetting p.0 ⊎ (q ≡ (p.0, deepened more p.1))
  unfolding deepening same_space
  world_comes p q (inl parted) = absurd parted
  world_comes p q (inr (inl ended)) = inl (set_by p.0 ended)
  world_comes p q (inr (inr (t, same, i))) = inr (same ∙ ap (λ s. (p.0, world_over (λ r. r, deeper_by more) p.1 s)) i)

  run_comes : {A : Type 0} (p q : Outcome A × (State S × ℕ)) → Comes deepening runs p q → IsDepthSetting p.0 ⊎ (q ≡ outcome_deepened more p)
  unfolding deepening same_space
  run_comes p q (inl parted) = absurd parted
  run_comes p q (inr (inl ended)) = inl (set_by p.0 ended)
  run_comes p q (inr (inr (t, same, i))) = inr (same ∙ ap (λ s. (p.0, (world_over (λ r. r, deeper_by more) p.1.0 s, p.1.1))) i)

  pub term_deepened : (t : Task) (s : State S × ℕ) → IsDepthSetting (meaning accesses t s).0 ⊎ (meaning accesses t (deepened more s.0, s.1) ≡ outcome_deepened more (meaning accesses t s))
  unfolding deepening same_space
  term_deepened t s = run_comes (meaning accesses t s) (meaning accesses t (deepened more s.0, s.1)) ((in_one_world t.depth (meaning_together deepening t)).goes s s.0.space refl)

  pub table_deepened : (bytes : List ℕ) (steps : ℕ) (w : State S) → IsDepthSetting (loaded accesses bytes steps w).0 ⊎ (loaded accesses bytes steps (deepened more w) ≡ ((loaded accesses bytes steps w).0, deepened more (loaded accesses bytes steps w).1))
  unfolding deepening same_space
  table_deepened bytes steps w = world_comes (loaded accesses bytes steps w) (loaded accesses bytes steps (deepened more w)) ((in_one_world 0 (loaded_together deepening bytes steps)).goes w w.space refl)

  pub value_deepened : (p : List Seg) (arguments : List Value) (steps : ℕ) (w : State S) → IsDepthSetting (evaluated accesses p arguments steps w).0 ⊎ (evaluated accesses p arguments steps (deepened more w) ≡ ((evaluated accesses p arguments steps w).0, deepened more (evaluated accesses p arguments steps w).1))
  unfolding deepening same_space
  value_deepened p arguments steps w = world_comes (evaluated accesses p arguments steps w) (evaluated accesses p arguments steps (deepened more w)) ((evaluated_together {side = deepening} (λ n. refl) p arguments steps).goes w w.space refl)

  pub answer_deepened : (p : List Seg) (arguments : List Given) (steps : ℕ) (w : State S) → IsDepthSetting (answered accesses p arguments steps w).0 ⊎ (answered accesses p arguments steps (deepened more w) ≡ ((answered accesses p arguments steps w).0, deepened more (answered accesses p arguments steps w).1))
  unfolding deepening same_space
  answer_deepened p arguments steps w = world_comes (answered accesses p arguments steps w) (answered accesses p arguments steps (deepened more w)) ((answered_together {side = deepening} p arguments steps).goes w w.space refl)

pub ruleset a_depth_answers_what_a_smaller_one_does = (term_deepened, table_deepened, value_deepened, answer_deepened)
