-- What a term means goes the same way over two register spaces.
use Rattle.std.specs.Prelude.{◌≡◌, ◌⊎◌, ℕ, zero, suc, List, true, Err, refl}
use Rattle.std.proofs.Common.{inl, inr, sym, subst, ap, ◌∙◌}
use Rattle.ar_space.specs.declared.refusal.Refusal.TheVariants as refusal
use Rattle.ar_space.specs.declared.refusal.EvaluationFault.TheVariants.{OutOfSteps}
use Rattle.ar_space.specs.Accesses.{Accesses}
use Rattle.aml_path.specs.declared.segment.Seg.{Seg}
use Rattle.aml_grammar.specs.Tree.{Tree, Trees}
use Rattle.aml_world.specs.declared.state.profile.Profile.TheVariants as profiles
use Rattle.aml_world.specs.declared.state.profile.Profile.{Profile}
use Rattle.aml_world.specs.declared.state.settings.Nesting.{Nesting}
use Rattle.aml_world.specs.state.PassedOver.{is_passable}
use Rattle.aml_world.specs.state.Run.{Run}
use Rattle.aml_world.specs.state.State.{State}
use Rattle.ar_space.specs.declared.refusal.Refusal.{Refusal}
use Rattle.aml_meaning.specs.declared.flow.Flow.{Flow}
use Rattle.aml_meaning.specs.Tasks.{Task, item, in_turn}
use Rattle.aml_meaning.specs.Evaluation.{rule}
use Rattle.aml_meaning.specs.Meaning.{meaning, evaluated_within}
use Rattle.aml_laws.proofs.Together.{Comes, Fits, SideBySide, Sides, Passes, Together, alike, ended_fits, fits_before, fits_ended, fits_none, more_fits, plain}
use Rattle.aml_laws.proofs.WorldsTogether.{runs, world_over}
use Rattle.aml_laws.proofs.ItemsTogether.{items_alike, items_widened}
use Rattle.aml_laws.proofs.Levels.{level, one_profile}
use Rattle.aml_laws.proofs.OperandsTogether.{PartsTogether, in_turn_together}
use Rattle.aml_laws.proofs.ProfileKept.{profile_relation}
use Rattle.aml_laws.proofs.RulesPreserve.{evaluated_within_preserves, meaning_preserves}
use Rattle.aml_laws.proofs.RulesTogether.{rule_together}

-- one step more than the parts of a term have
module _ {S T : Type 0} {accesses : Accesses S} {accesses2 : Accesses T} (side : Sides accesses accesses2) (n m : ℕ) (task : Task) (h : Together side runs (rule accesses (evaluated_within accesses n) task) (rule accesses2 (evaluated_within accesses2 m) task)) where
  step_left : (w : State S) (b : ℕ) (t : T) → side.beside.Parted w.space t → side.beside.Parted (evaluated_within accesses (suc n) task (w, b)).1.0.space t
  unfolding evaluated_within
  step_left w zero t p = p
  step_left w (suc b) t p = h.left_parted (w, b) t p

  step_right : (s : S) (v : State T) (b : ℕ) → side.beside.Parted s v.space → side.beside.Parted s (evaluated_within accesses2 (suc m) task (v, b)).1.0.space
  unfolding evaluated_within
  step_right s v zero p = p
  step_right s v (suc b) p = h.right_parted s (v, b) p

  -- where no step is left
  none_goes : (w : State S) (t : T) → ((k : ℕ) → side.more k ≡ k) ⊎ side.Ends (refusal.Evaluation OutOfSteps) → side.beside.InStep w.space t → Comes side runs (evaluated_within accesses (suc n) task (w, zero)) (evaluated_within accesses2 (suc m) task (world_over side.raise w t, side.more zero))
  unfolding evaluated_within
  none_goes w t (inl same) i =
      inr (inr (t, ap (λ k. evaluated_within accesses2 (suc m) task (world_over side.raise w t, k)) (same zero) ∙ ap (λ k. (Err (refusal.Evaluation OutOfSteps), (world_over side.raise w t, k))) (sym (same zero)), i))
  none_goes w t (inr ends) i = inr (inl ends)

  step_goes : (w : State S) (b : ℕ) (t : T) → side.beside.InStep w.space t → Comes side runs (evaluated_within accesses (suc n) task (w, b)) (evaluated_within accesses2 (suc m) task (world_over side.raise w t, side.more b))
  unfolding evaluated_within
  step_goes w zero t i = none_goes w t side.none_left i
  step_goes w (suc b) t i =
      subst (λ k. Comes side runs (rule accesses (evaluated_within accesses n) task (w, b)) (evaluated_within accesses2 (suc m) task (world_over side.raise w t, k))) (sym (side.more_next b)) (h.goes (w, b) t i)

module _ {S T : Type 0} {accesses : Accesses S} {accesses2 : Accesses T} (side : Sides accesses accesses2) where
  -- no step on the left, and whatever the right one does
  first_ended : (n m : ℕ) (task : Task) → side.Ends (refusal.Evaluation OutOfSteps) → Together (level side task.depth) runs (rule accesses (evaluated_within accesses n) task) (rule accesses2 (evaluated_within accesses2 m) task)
      → Together (level side task.depth) runs (evaluated_within accesses zero task) (evaluated_within accesses2 (suc m) task)
  unfolding evaluated_within
  first_ended n m task ends h = record {
    left_parted = λ s t p. p;
    right_parted = λ s u p. step_right (level side task.depth) n m task h s u.0 u.1 p;
    goes = λ s t i. inr (inl (inl ends));
  }

  none_together : (task : Task) → Together (level side task.depth) runs (evaluated_within accesses zero task) (evaluated_within accesses2 zero task)
  unfolding evaluated_within
  none_together task = plain (λ s. refl) (λ s. refl) (λ s t. refl)

  next_together : (n m : ℕ) (task : Task) → Together (level side task.depth) runs (rule accesses (evaluated_within accesses n) task) (rule accesses2 (evaluated_within accesses2 m) task)
      → Together (level side task.depth) runs (evaluated_within accesses (suc n) task) (evaluated_within accesses2 (suc m) task)
  next_together n m task h = record {
    left_parted = λ s t p. step_left (level side task.depth) n m task h s.0 s.1 t p;
    right_parted = λ s u p. step_right (level side task.depth) n m task h s u.0 u.1 p;
    goes = λ s t i. step_goes (level side task.depth) n m task h s.0 s.1 t i;
  }

  -- ---- in the same profile

  module _ (same : (p : Profile) → side.raise.0 p ≡ p) (unpassed : (e : Refusal) → is_passable e ≡ true → side.Ends e → ⊥) (is : side.passes ≡ inl (same, unpassed)) where
    pub alike_parts : (ev : Task → Run S Flow) (ev2 : Task → Run T Flow) → ((t : Task) → Together (level side t.depth) runs (ev t) (ev2 t)) → PartsTogether side ev ev2
    alike_parts ev ev2 h = record { part = h; item_of = items_alike side ev ev2 h same unpassed is }

    pub bounded_together : (n m : ℕ) → Fits side n m → (task : Task) → Together (level side task.depth) runs (evaluated_within accesses n task) (evaluated_within accesses2 m task)
    bounded_together zero zero fits task = none_together task
    bounded_together (suc n) zero fits task = absurd (fits_none side n fits)
    bounded_together zero (suc m) fits task =
        let ends = fits_ended side m fits in
        first_ended zero m task ends (rule_together (alike_parts _ _ (bounded_together zero m (ended_fits side m ends))) task)
    bounded_together (suc n) (suc m) fits task = next_together n m task (rule_together (alike_parts _ _ (bounded_together n m (fits_before side n m fits))) task)

-- in the same profile, with as many steps
alike_within : {S T : Type 0} {accesses : Accesses S} {accesses2 : Accesses T} (beside : SideBySide accesses accesses2) (n : ℕ) (task : Task) → Together (alike beside) runs (evaluated_within accesses n task) (evaluated_within accesses2 n task)
alike_within beside n task = one_profile beside task.depth (bounded_together (alike beside) (λ p. refl) (λ e holds h. h) refl n n (inl refl) task)

within_keeps_profile : {S : Type 0} (accesses : Accesses S) (n : ℕ) (task : Task) (s : State S × ℕ) → (evaluated_within accesses n task s).1.0.profile ≡ s.0.profile
within_keeps_profile accesses n task s = evaluated_within_preserves (profile_relation accesses) n task s.0 s.1

module _ {S T : Type 0} {accesses : Accesses S} {accesses2 : Accesses T} (side : Sides accesses accesses2) where
  -- ---- the right one is wide

  wide_parts : (wide : (p : Profile) → side.raise.0 p ≡ profiles.Wide) (same_steps : ((n : ℕ) → side.more n ≡ n) × ((d : Nesting) → side.raise.1 d ≡ d)) → side.passes ≡ inr (wide, same_steps) → (n : ℕ) → ((t : Task) → Together (level side t.depth) runs (evaluated_within accesses n t) (evaluated_within accesses2 n t))
      → PartsTogether side (evaluated_within accesses n) (evaluated_within accesses2 n)
  wide_parts wide same_steps is n h = record { part = h; item_of = items_widened side _ _ h wide same_steps is (alike_within side.beside n) (within_keeps_profile accesses n) }

  wide_together : (wide : (p : Profile) → side.raise.0 p ≡ profiles.Wide) (same_steps : ((n : ℕ) → side.more n ≡ n) × ((d : Nesting) → side.raise.1 d ≡ d)) → side.passes ≡ inr (wide, same_steps) → (n : ℕ) (task : Task) → Together (level side task.depth) runs (evaluated_within accesses n task) (evaluated_within accesses2 n task)
  wide_together wide same_steps is zero task = none_together side task
  wide_together wide same_steps is (suc n) task = next_together side n n task (rule_together (wide_parts wide same_steps is n (wide_together wide same_steps is n)) task)

  -- ---- in both cases

  as_many : (p : Passes side.raise side.Ends side.more) → side.passes ≡ p → (n : ℕ) (task : Task) → Together (level side task.depth) runs (evaluated_within accesses n task) (evaluated_within accesses2 n task)
  as_many (inl h) is n task = bounded_together side h.0 h.1 is n n (inl refl) task
  as_many (inr h) is n task = wide_together h.0 h.1 is n task

  with_more : (p : Passes side.raise side.Ends side.more) → side.passes ≡ p → (n : ℕ) (task : Task) → Together (level side task.depth) runs (evaluated_within accesses n task) (evaluated_within accesses2 (side.more n) task)
  with_more (inl h) is n task = bounded_together side h.0 h.1 is n (side.more n) (more_fits side n) task
  with_more (inr h) is n task = subst (λ k. Together (level side task.depth) runs (evaluated_within accesses n task) (evaluated_within accesses2 k task)) (sym (h.1.0 n)) (wide_together h.0 h.1 is n task)

  pub meaning_together : (task : Task) → Together (level side task.depth) runs (meaning accesses task) (meaning accesses2 task)
  unfolding meaning
  meaning_together task = record {
    left_parted = λ s t h. (as_many side.passes refl s.1 task).left_parted s t h;
    right_parted = λ s u h. (as_many side.passes refl u.1 task).right_parted s u h;
    goes = λ s t i. (with_more side.passes refl s.1 task).goes s t i;
  }

module _ {S T : Type 0} {accesses : Accesses S} {accesses2 : Accesses T} (side : Sides accesses accesses2) where
  item_of_meaning : (p : Passes side.raise side.Ends side.more) → side.passes ≡ p → (scope : List Seg) (depth : ℕ) (t : Tree) → Together (level side depth) runs (item (meaning accesses) scope depth t) (item (meaning accesses2) scope depth t)
  item_of_meaning (inl h) is scope depth t = items_alike side (meaning accesses) (meaning accesses2) (meaning_together side) h.0 h.1 is scope depth t
  item_of_meaning (inr h) is scope depth t =
      items_widened side (meaning accesses) (meaning accesses2) (meaning_together side) h.0 h.1 is (λ u. one_profile side.beside u.depth (meaning_together (alike side.beside) u))
      (λ u s. (meaning_preserves {relation = profile_relation accesses} u).preserves s) scope depth t

module _ {S T : Type 0} {accesses : Accesses S} {accesses2 : Accesses T} {side : Sides accesses accesses2} where
  pub meaning_parts : PartsTogether side (meaning accesses) (meaning accesses2)
  meaning_parts = record { part = meaning_together side; item_of = item_of_meaning side side.passes refl }

module _ {S T : Type 0} {accesses : Accesses S} {accesses2 : Accesses T} (side : Sides accesses accesses2) where
  pub list_together : (scope : List Seg) (depth : ℕ) (ts : Trees) → Together (level side depth) runs (in_turn (meaning accesses) scope depth ts) (in_turn (meaning accesses2) scope depth ts)
  list_together scope depth ts = in_turn_together meaning_parts scope depth ts
