-- The trees that begin are counted where they begin, and no more begin than there are steps.
use Rattle.std.specs.Prelude.{◌≡◌, ◌≤◌, ◌<◌, ◌+◌, ◌-◌, ℕ, zero, suc, List, Ok, Err, refl}
use Rattle.std.proofs.Common.{arith, ap, ◌∙◌, sym, subst, sub-one}
use Rattle.ar_space.specs.Accesses.{Accesses}
use Rattle.ar_space.specs.Outcome.{Outcome}
use Rattle.ar_space.specs.Change.{◌>>◌, ◌>>=◌, go_on}
use Rattle.aml_path.specs.declared.segment.Seg.{Seg}
use Rattle.aml_grammar.specs.Tree.{Trees}
use Rattle.aml_objects.specs.declared.value.Value.{Value}
use Rattle.aml_world.specs.state.State.{State}
use Rattle.aml_world.specs.state.Run.{Run}
use Rattle.aml_meaning.specs.Tasks.{Task, in_turn}
use Rattle.aml_meaning.specs.Calls.{invoked}
use Rattle.aml_meaning.specs.Meaning.{meaning}
use Rattle.aml_meaning.proofs.Agree.{not_zero}
use Rattle.ar_space.specs.declared.refusal.Refusal.TheVariants as refusal
use Rattle.ar_space.specs.declared.refusal.EvaluationFault.TheVariants.{OutOfSteps}
use Rattle.aml_meaning.proofs.Meanings.{meaning_less, meaning_charged}
use Rattle.aml_laws.specs.Counted.{without_counter, with_counter, outcome_without_counter, one_more_begun, begin}
use Rattle.aml_laws.specs.CostsOfTrees.{CostsOneStep, CostsNothing}
use Rattle.aml_laws.specs.CountedTrees.{trees_begun, counting_trees, LeavesNoMore}
use Rattle.aml_laws.proofs.Preorders.{Preorder}
use Rattle.aml_laws.proofs.StepsOfParts.{Keeps, in_turn_keeps, invoked_keeps}

-- ---- one after another

module _ {S : Type 0} where
  -- what is counted of what a run came to, from so many trees and so many steps
  abbrev counted_end : {A : Type 0} → ℕ → ℕ → Outcome A × (State S × ℕ) → Outcome A × (State (S × ℕ) × ℕ)
  counted_end count steps r = (r.0, (with_counter (count + (steps - r.1.1)) r.1.0, r.1.1))

  later_by_cases : {A B : Type 0} (count steps : ℕ) (r : Outcome A) (s : State S × ℕ) (k : A → Run S B) → s.1 ≤ steps → ((a : A) → LeavesNoMore (k a))
      → counted_end count steps (go_on r s k) ≡ go_on r (with_counter (count + (steps - s.1)) s.0, s.1) (λ a. counting_trees (k a))
  unfolding go_on counting_trees
  later_by_cases count steps (Ok a) s k le less =
      let l = less a s in
      ap (λ c. ((k a s).0, (with_counter c (k a s).1.0, (k a s).1.1))) (omega (arith, le, l))
  later_by_cases count steps (Err e) s k le less = refl

  pub counted_in_turn : {A B : Type 0} (m : Run S A) (k : A → Run S B) (s : State (S × ℕ) × ℕ) → LeavesNoMore m → ((a : A) → LeavesNoMore (k a)) → counting_trees (m >>= k) s ≡ (counting_trees m >>= (λ a. counting_trees (k a))) s
  unfolding counting_trees ◌>>=◌
  counted_in_turn m k s less others = let r = m (without_counter s.0, s.1) in later_by_cases (trees_begun s.0) s.1 r.0 r.1 k (less (without_counter s.0, s.1)) others

  -- ---- a tree that begins

  begin_one : (w : State (S × ℕ)) (steps : ℕ) → begin (w, suc steps) ≡ (Ok tt, (one_more_begun w, steps))
  unfolding begin
  begin_one w steps = rw (not_zero steps, sub-one) refl

  begins_by_steps : {A : Type 0} (m rest : Run S A) (w : State (S × ℕ)) (steps : ℕ) → CostsOneStep m rest → counting_trees m (w, steps) ≡ (begin >> counting_trees rest) (w, steps)
  unfolding counting_trees begin ◌>>=◌ go_on
  begins_by_steps m rest w zero c = ap (counted_end (trees_begun w) zero) (c.refused (without_counter w)) ∙ ap (λ n. (Err (refusal.Evaluation OutOfSteps), (with_counter n (without_counter w), zero))) (omega arith)
  begins_by_steps {A} m rest w (suc steps) c =
      let r = rest (without_counter w, steps) in
      let le = subst (λ (x : Outcome A × (State S × ℕ)). x.1.1 ≤ steps) (c.paid (without_counter w) steps) (c.less (without_counter w) steps) in
      let more : trees_begun w + (suc steps - r.1.1) ≡ trees_begun w + 1 + (steps - r.1.1) = omega (arith, le) in
      ap (counted_end (trees_begun w) (suc steps)) (c.paid (without_counter w) steps)
      ∙ ap (λ n. (r.0, (with_counter n r.1.0, r.1.1))) more
      ∙ sym (ap (λ (a : Outcome (Unit {0}) × (State (S × ℕ) × ℕ)). go_on a.0 a.1 (λ _. counting_trees rest)) (begin_one w steps))

  pub counted_where_it_begins : {A : Type 0} (m rest : Run S A) (s : State (S × ℕ) × ℕ) → CostsOneStep m rest → counting_trees m s ≡ (begin >> counting_trees rest) s
  counted_where_it_begins m rest s c = begins_by_steps m rest s.0 s.1 c

  pub nothing_begins : {A : Type 0} (m : Run S A) (s : State (S × ℕ) × ℕ) → CostsNothing m → trees_begun (counting_trees m s).1.0 ≡ trees_begun s.0
  unfolding counting_trees
  nothing_begins m s none = let e = none (without_counter s.0) s.1 in omega (arith, e)

  -- ---- as many as the steps that are taken

  pub total_stays : {A : Type 0} (m : Run S A) (s : State (S × ℕ) × ℕ) → LeavesNoMore m → trees_begun (counting_trees m s).1.0 + (counting_trees m s).1.1 ≡ trees_begun s.0 + s.1
  unfolding counting_trees
  total_stays m s less = let l = less (without_counter s.0, s.1) in omega (arith, l)

module _ {S : Type 0} (accesses : Accesses S) where
  abbrev fewer : Preorder ℕ
  fewer = record { Leads = λ n m. m ≤ n; reflexive = λ n. omega arith; transitive = λ n m k h i. omega (arith, h, i) }

  term_less : (t : Task) → Keeps fewer (meaning accesses t)
  term_less t = record { respects = meaning_less accesses t }

  pub term_total : (t : Task) (s : State (S × ℕ) × ℕ) → trees_begun (counting_trees (meaning accesses t) s).1.0 + (counting_trees (meaning accesses t) s).1.1 ≡ trees_begun s.0 + s.1
  term_total t s = total_stays (meaning accesses t) s (meaning_less accesses t)

  pub list_total : (scope : List Seg) (depth : ℕ) (ts : Trees) (s : State (S × ℕ) × ℕ) → trees_begun (counting_trees (in_turn (meaning accesses) scope depth ts) s).1.0 + (counting_trees (in_turn (meaning accesses) scope depth ts) s).1.1 ≡ trees_begun s.0 + s.1
  list_total scope depth ts s = total_stays _ s (in_turn_keeps fewer accesses (meaning accesses) term_less scope depth ts).respects

  pub call_total : (depth : ℕ) (p : List Seg) (body : List ℕ) (arguments : List Value) (s : State (S × ℕ) × ℕ)
      → trees_begun (counting_trees (invoked (meaning accesses) depth p body arguments) s).1.0 + (counting_trees (invoked (meaning accesses) depth p body arguments) s).1.1 ≡ trees_begun s.0 + s.1
  call_total depth p body arguments s = total_stays _ s (invoked_keeps fewer accesses (meaning accesses) term_less depth p body arguments).respects

  pub term_adds_tree : (t : Task) (s : State (S × ℕ) × ℕ) → 0 < s.1 → trees_begun s.0 < trees_begun (counting_trees (meaning accesses t) s).1.0
  unfolding counting_trees
  term_adds_tree t s some = let l = meaning_charged accesses t (without_counter s.0, s.1) some in omega (arith, l)

  pub no_more_trees_than_steps : (t : Task) (w : State S) (steps : ℕ) → trees_begun (counting_trees (meaning accesses t) (with_counter 0 w, steps)).1.0 ≤ steps
  no_more_trees_than_steps t w steps = let e = term_total t (with_counter 0 w, steps) in omega (arith, e)

module _ {S A : Type 0} where
  pub trees_never_fall : (m : Run S A) (s : State (S × ℕ) × ℕ) → trees_begun s.0 ≤ trees_begun (counting_trees m s).1.0
  unfolding counting_trees
  trees_never_fall m s = omega arith

  pub counting_changes_nothing : (m : Run S A) (s : State (S × ℕ) × ℕ) → m (without_counter s.0, s.1) ≡ outcome_without_counter (counting_trees m s)
  unfolding counting_trees
  counting_changes_nothing m s = refl

pub ruleset trees_that_begin_are_counted = (no_more_trees_than_steps, term_total, list_total, call_total, term_adds_tree, trees_never_fall, counted_where_it_begins, nothing_begins, counted_in_turn, counting_changes_nothing)
