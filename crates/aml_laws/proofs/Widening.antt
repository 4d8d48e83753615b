-- The wide profile gives what the core one gives, where that leaves no term out.
use Rattle.std.specs.Prelude.{◌≡◌, ◌⊎◌, ℕ, List, Ok, Err, refl}
use Rattle.std.proofs.Common.{inl, inr, ap, ◌∙◌}
use Rattle.ar_space.specs.Accesses.{Accesses}
use Rattle.ar_space.specs.Outcome.{Outcome}
use Rattle.aml_path.specs.declared.segment.Seg.{Seg}
use Rattle.aml_objects.specs.declared.value.Value.{Value}
use Rattle.aml_world.specs.declared.state.profile.Profile.TheVariants as profiles
use Rattle.aml_world.specs.state.Given.{Given}
use Rattle.aml_world.specs.state.State.{State}
use Rattle.aml_world.specs.state.Predefined.{predefined}
use Rattle.aml_meaning.specs.Tasks.{Task}
use Rattle.aml_meaning.specs.Meaning.{meaning}
use Rattle.aml_meaning.specs.Calling.{loaded, evaluated, answered}
use Rattle.aml_laws.specs.Widened.{widened, outcome_widened, LeftOut, IsLeftOut, IsLeftOutAt}
use Rattle.aml_laws.proofs.Together.{SideBySide, Sides, Comes, IsEnded}
use Rattle.aml_laws.proofs.WorldsTogether.{worlds, runs, world_over}
use Rattle.aml_laws.proofs.Levels.{level}
use Rattle.aml_laws.proofs.MeaningTogether.{meaning_together}
use Rattle.aml_laws.proofs.EvaluationsTogether.{loaded_together, evaluated_together, answered_together, predefined_together}

left_out : {A : Type 0} (r : Outcome A) → IsEnded LeftOut r → IsLeftOut r
left_out (Ok a) h = absurd h
left_out (Err e) h = h

module _ {S : Type 0} (accesses : Accesses S) where
  -- a register space beside itself
  unfoldable pub same_space : SideBySide accesses accesses
  same_space = record {
    InStep = λ s t. t ≡ s;
    Parted = λ s t. ⊥;
    reads = λ s t place width i. inr (ap (λ u. (accesses.reads u place width).0) i, ap (λ u. (accesses.reads u place width).1) i);
    writes = λ s t place width value i. inr (ap (λ u. (accesses.writes u place width value).0) i, ap (λ u. (accesses.writes u place width value).1) i);
    left_reads = λ s t place width p. p;
    left_writes = λ s t place width value p. p;
    right_reads = λ s t place width p. p;
    right_writes = λ s t place width value p. p;
  }

  -- the core profile on the left, the wide one on the right
  unfoldable widening : Sides accesses accesses
  unfolding same_space
  widening = record { beside = same_space; raise = (λ p. profiles.Wide, λ d. d); Ends = LeftOut; wide_stays = refl; core_stays = inr (λ e h. h); deepens = inl (λ d. refl); more = λ n. n; more_next = λ n. refl; none_left = inl (λ n. refl); passes = inr (λ p. refl, (λ n. refl, λ d. refl)) }

  world_comes : {A : Type 0} (p q : Outcome A × State S) → Comes widening worlds p q → IsLeftOut p.0 ⊎ (q ≡ (p.0, widened p.1))
  unfolding widening same_space
  world_comes p q (inl parted) = absurd parted
  world_comes p q (inr (inl ended)) = inl (left_out p.0 ended)
  world_comes p q (inr (inr (t, same, i))) = inr (same ∙ ap (λ s. (p.0, world_over (λ r. profiles.Wide, λ d. d) p.1 s)) i)

  left_out_at : {A : Type 0} (depth : ℕ) (r : Outcome A) → IsEnded (level widening depth).Ends r → IsLeftOutAt depth r
  unfolding widening
  left_out_at depth (Ok a) h = absurd h
  left_out_at depth (Err e) h = h

  world_comes_at : {A : Type 0} (depth : ℕ) (p q : Outcome A × State S) → Comes (level widening depth) worlds p q → IsLeftOutAt depth p.0 ⊎ (q ≡ (p.0, widened p.1))
  unfolding widening same_space
  world_comes_at depth p q (inl parted) = absurd parted
  world_comes_at depth p q (inr (inl ended)) = inl (left_out_at depth p.0 ended)
  world_comes_at depth p q (inr (inr (t, same, i))) = inr (same ∙ ap (λ s. (p.0, world_over (λ r. profiles.Wide, λ d. d) p.1 s)) i)

  run_comes_at : {A : Type 0} (depth : ℕ) (p q : Outcome A × (State S × ℕ)) → Comes (level widening depth) runs p q → IsLeftOutAt depth p.0 ⊎ (q ≡ outcome_widened p)
  unfolding widening same_space
  run_comes_at depth p q (inl parted) = absurd parted
  run_comes_at depth p q (inr (inl ended)) = inl (left_out_at depth p.0 ended)
  run_comes_at depth p q (inr (inr (t, same, i))) = inr (same ∙ ap (λ s. (p.0, (world_over (λ r. profiles.Wide, λ d. d) p.1.0 s, p.1.1))) i)

  pub term_widened : (t : Task) (s : State S × ℕ) → IsLeftOutAt t.depth (meaning accesses t s).0 ⊎ (meaning accesses t (widened s.0, s.1) ≡ outcome_widened (meaning accesses t s))
  unfolding widening same_space
  term_widened t s = run_comes_at t.depth (meaning accesses t s) (meaning accesses t (widened s.0, s.1)) ((meaning_together widening t).goes s s.0.space refl)

  pub table_widened : (bytes : List ℕ) (steps : ℕ) (w : State S) → IsLeftOutAt 0 (loaded accesses bytes steps w).0 ⊎ (loaded accesses bytes steps (widened w) ≡ ((loaded accesses bytes steps w).0, widened (loaded accesses bytes steps w).1))
  unfolding widening same_space
  table_widened bytes steps w = world_comes_at 0 (loaded accesses bytes steps w) (loaded accesses bytes steps (widened w)) ((loaded_together widening bytes steps).goes w w.space refl)

  pub value_widened : (p : List Seg) (arguments : List Value) (steps : ℕ) (w : State S) → IsLeftOut (evaluated accesses p arguments steps w).0 ⊎ (evaluated accesses p arguments steps (widened w) ≡ ((evaluated accesses p arguments steps w).0, widened (evaluated accesses p arguments steps w).1))
  unfolding widening same_space
  value_widened p arguments steps w = world_comes (evaluated accesses p arguments steps w) (evaluated accesses p arguments steps (widened w)) ((evaluated_together {side = widening} (λ n. refl) p arguments steps).goes w w.space refl)

  pub answer_widened : (p : List Seg) (arguments : List Given) (steps : ℕ) (w : State S) → IsLeftOut (answered accesses p arguments steps w).0 ⊎ (answered accesses p arguments steps (widened w) ≡ ((answered accesses p arguments steps w).0, widened (answered accesses p arguments steps w).1))
  unfolding widening same_space
  answer_widened p arguments steps w = world_comes (answered accesses p arguments steps w) (answered accesses p arguments steps (widened w)) ((answered_together {side = widening} p arguments steps).goes w w.space refl)

  pub predefined_widened : (w : State S) → IsLeftOut (predefined w).0 ⊎ (predefined (widened w) ≡ ((predefined w).0, widened (predefined w).1))
  unfolding widening same_space
  predefined_widened w = world_comes (predefined w) (predefined (widened w)) ((predefined_together {accesses = accesses} {side = widening}).goes w w.space refl)

pub ruleset the_wide_profile_answers_what_the_core_one_does = (term_widened, table_widened, value_widened, answer_widened, predefined_widened)
