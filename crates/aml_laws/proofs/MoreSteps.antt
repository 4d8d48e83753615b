-- With more steps an evaluation that isn't refused for want of them comes to the same: a run beside itself, with more steps on the
-- right. Each rule goes the same way on both sides: a new rule needs its line in `RulesTogether` or `WideTermsTogether`, and none here.
use Rattle.std.specs.Prelude.{◌≡◌, ◌≢◌, ◌⊎◌, ◌+◌, ℕ, List, true, Ok, Err, refl}
use Rattle.std.proofs.Common.{arith, inl, inr, ap, sym, ◌∙◌}
use Rattle.ar_space.specs.declared.refusal.Refusal.{Refusal}
use Rattle.ar_space.specs.declared.refusal.Refusal.TheVariants as refusal
use Rattle.ar_space.specs.declared.refusal.EvaluationFault.TheVariants.{OutOfSteps}
use Rattle.ar_space.specs.Accesses.{Accesses}
use Rattle.ar_space.specs.Outcome.{Outcome}
use Rattle.ar_space.specs.Change.{Change}
use Rattle.aml_world.specs.state.PassedOver.{is_passable}
use Rattle.aml_path.specs.declared.segment.Seg.{Seg}
use Rattle.aml_grammar.specs.Tree.{Trees}
use Rattle.aml_objects.specs.declared.value.Value.{Value}
use Rattle.aml_world.specs.state.Given.{Given}
use Rattle.aml_world.specs.state.State.{State}
use Rattle.aml_meaning.specs.Tasks.{Task, in_turn}
use Rattle.aml_meaning.specs.Calls.{invoked}
use Rattle.aml_meaning.specs.Meaning.{meaning}
use Rattle.aml_meaning.specs.Calling.{loaded, called, with_rest, counted, evaluated, answered}
use Rattle.aml_laws.specs.Steps.{IsOutOfSteps, with_more_left, value_with_more_left}
use Rattle.aml_laws.proofs.Together.{Sides, Shape, Together, Comes, IsEnded}
use Rattle.aml_laws.proofs.WorldsTogether.{worlds, runs, world_over}
use Rattle.aml_laws.proofs.OperandsTogether.{invoked_together}
use Rattle.aml_laws.proofs.Levels.{level, in_one_profile}
use Rattle.aml_laws.proofs.MeaningTogether.{meaning_together, meaning_parts, list_together}
use Rattle.aml_laws.proofs.EvaluationsTogether.{loaded_together, called_together, answered_together}
use Rattle.aml_laws.proofs.Widening.{same_space}

abbrev Spends : Refusal → Type 0
Spends e = e ≡ refusal.Evaluation OutOfSteps

out_of_steps : {A : Type 0} (r : Outcome A) → IsEnded Spends r → IsOutOfSteps r
out_of_steps (Ok a) h = absurd h
out_of_steps (Err e) h = ap (λ x. Err x) h

pub never_passed : (e : Refusal) → is_passable e ≡ true → Spends e → ⊥
never_passed e holds h = absurd (cc (sym holds ∙ ap is_passable h))

unless : {A B : Type 0} → A ⊎ B → (A → ⊥) → B
unless (inl a) n = absurd (n a)
unless (inr b) n = b

rest_out_of_steps : (r : Outcome Value) (rest : ℕ) → IsOutOfSteps r → IsOutOfSteps (with_rest r rest)
rest_out_of_steps r rest h = ap (λ x. with_rest x rest) h

more_rest : {S : Type 0} (r : Outcome Value) (rest k : ℕ) (w : State S) → (with_rest r (rest + k), w) ≡ value_with_more_left k (with_rest r rest, w)
more_rest (Ok v) rest k w = refl
more_rest (Err e) rest k w = refl

module _ {S : Type 0} (accesses : Accesses S) (k : ℕ) where
  unfoldable pub lengthening : Sides accesses accesses
  lengthening = record {
    beside = same_space accesses;
    raise = (λ p. p, λ d. d);
    Ends = Spends;
    wide_stays = refl;
    core_stays = inl refl;
    deepens = inl (λ d. refl);
    more = λ n. n + k;
    more_next = λ n. omega arith;
    none_left = inr refl;
    passes = inl (λ p. refl, never_passed);
  }

  pub one : {X Y A : Type 0} {shape : Shape S S X Y} {m : Change X A} {n : Change Y A} (depth : ℕ) → Together (level lengthening depth) shape m n → Together lengthening shape m n
  unfolding lengthening
  one depth h = in_one_profile lengthening depth (λ p. refl) never_passed refl h

  world_comes : {A : Type 0} (p q : Outcome A × State S) → Comes lengthening worlds p q → IsOutOfSteps p.0 ⊎ (q ≡ p)
  unfolding lengthening same_space
  world_comes p q (inl parted) = absurd parted
  world_comes p q (inr (inl ended)) = inl (out_of_steps p.0 ended)
  world_comes p q (inr (inr (t, same, i))) = inr (same ∙ ap (λ s. (p.0, world_over (λ r. r, λ d. d) p.1 s)) i)

  pub run_comes : {A : Type 0} (p q : Outcome A × (State S × ℕ)) → Comes lengthening runs p q → IsOutOfSteps p.0 ⊎ (q ≡ with_more_left k p)
  unfolding lengthening same_space
  run_comes p q (inl parted) = absurd parted
  run_comes p q (inr (inl ended)) = inl (out_of_steps p.0 ended)
  run_comes p q (inr (inr (t, same, i))) = inr (same ∙ ap (λ s. (p.0, (world_over (λ r. r, λ d. d) p.1.0 s, p.1.1 + k))) i)

  pub term_lengthened : (t : Task) (w : State S) (steps : ℕ) → (meaning accesses t (w, steps)).0 ≢ Err (refusal.Evaluation OutOfSteps)
      → meaning accesses t (w, steps + k) ≡ with_more_left k (meaning accesses t (w, steps))
  unfolding lengthening same_space
  term_lengthened t w steps enough = unless (run_comes (meaning accesses t (w, steps)) (meaning accesses t (w, steps + k)) ((one t.depth (meaning_together lengthening t)).goes (w, steps) w.space refl)) enough

  pub list_lengthened : (scope : List Seg) (depth : ℕ) (ts : Trees) (w : State S) (steps : ℕ) → (in_turn (meaning accesses) scope depth ts (w, steps)).0 ≢ Err (refusal.Evaluation OutOfSteps)
      → in_turn (meaning accesses) scope depth ts (w, steps + k) ≡ with_more_left k (in_turn (meaning accesses) scope depth ts (w, steps))
  unfolding lengthening same_space
  list_lengthened scope depth ts w steps enough =
      unless (run_comes (in_turn (meaning accesses) scope depth ts (w, steps)) (in_turn (meaning accesses) scope depth ts (w, steps + k)) ((one depth (list_together lengthening scope depth ts)).goes (w, steps) w.space refl)) enough

  pub call_lengthened : (depth : ℕ) (p : List Seg) (body : List ℕ) (arguments : List Value) (w : State S) (steps : ℕ) → (invoked (meaning accesses) depth p body arguments (w, steps)).0 ≢ Err (refusal.Evaluation OutOfSteps)
      → invoked (meaning accesses) depth p body arguments (w, steps + k) ≡ with_more_left k (invoked (meaning accesses) depth p body arguments (w, steps))
  unfolding lengthening same_space
  call_lengthened depth p body arguments w steps enough =
      unless (run_comes (invoked (meaning accesses) depth p body arguments (w, steps)) (invoked (meaning accesses) depth p body arguments (w, steps + k)) ((one 1 (invoked_together {side = lengthening} meaning_parts 1 depth p body arguments)).goes (w, steps) w.space refl)) enough

  pub table_lengthened : (bytes : List ℕ) (steps : ℕ) (w : State S) → (loaded accesses bytes steps w).0 ≢ Err (refusal.Evaluation OutOfSteps) → loaded accesses bytes (steps + k) w ≡ loaded accesses bytes steps w
  unfolding lengthening same_space
  table_lengthened bytes steps w enough = unless (world_comes (loaded accesses bytes steps w) (loaded accesses bytes (steps + k) w) ((one 0 (loaded_together lengthening bytes steps)).goes w w.space refl)) enough

  pub answer_lengthened : (p : List Seg) (arguments : List Given) (steps : ℕ) (w : State S) → (answered accesses p arguments steps w).0 ≢ Err (refusal.Evaluation OutOfSteps) → answered accesses p arguments (steps + k) w ≡ answered accesses p arguments steps w
  unfolding lengthening same_space
  answer_lengthened p arguments steps w enough = unless (world_comes (answered accesses p arguments steps w) (answered accesses p arguments (steps + k) w) ((answered_together {side = lengthening} p arguments steps).goes w w.space refl)) enough

  -- ---- a value, which is told with the steps that are left

  called_comes : (p : List Seg) (arguments : List Value) (steps : ℕ) (w : State S) → IsOutOfSteps (called accesses p arguments (w, steps)).0 ⊎ (called accesses p arguments (w, steps + k) ≡ with_more_left k (called accesses p arguments (w, steps)))
  unfolding lengthening same_space
  called_comes p arguments steps w = run_comes (called accesses p arguments (w, steps)) (called accesses p arguments (w, steps + k)) ((called_together {side = lengthening} p arguments).goes (w, steps) w.space refl)

  told_comes : (m n : Outcome Value × (State S × ℕ)) → IsOutOfSteps m.0 ⊎ (n ≡ with_more_left k m) → IsOutOfSteps (with_rest m.0 m.1.1) ⊎ ((with_rest n.0 n.1.1, n.1.0) ≡ value_with_more_left k (with_rest m.0 m.1.1, m.1.0))
  told_comes m n (inl ended) = inl (rest_out_of_steps m.0 m.1.1 ended)
  told_comes m n (inr same) = inr (ap (λ (x : Outcome Value × (State S × ℕ)). (with_rest x.0 x.1.1, x.1.0)) same ∙ more_rest m.0 m.1.1 k m.1.0)

  pub value_lengthened : (p : List Seg) (arguments : List Value) (steps : ℕ) (w : State S) → (evaluated accesses p arguments steps w).0 ≢ Err (refusal.Evaluation OutOfSteps)
      → evaluated accesses p arguments (steps + k) w ≡ value_with_more_left k (evaluated accesses p arguments steps w)
  unfolding evaluated counted
  value_lengthened p arguments steps w enough = unless (told_comes (called accesses p arguments (w, steps)) (called accesses p arguments (w, steps + k)) (called_comes p arguments steps w)) enough

pub ruleset steps_only_bound_an_evaluation = (term_lengthened, list_lengthened, call_lengthened, table_lengthened, value_lengthened, answer_lengthened)
