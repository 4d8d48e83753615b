-- Counting the terms that begin changes nothing else, and no more begin than there are steps.
use Rattle.std.specs.Prelude.{◌≡◌, ℕ, zero, suc, ◌+◌, ◌≤◌, List, refl}
use Rattle.std.proofs.Common.{arith, sym, sub-one}
use Rattle.ar_space.specs.Accesses.{Accesses}
use Rattle.ar_space.specs.Change.{go_on, ◌>>=◌}
use Rattle.aml_path.specs.declared.segment.Seg.{Seg}
use Rattle.aml_grammar.specs.Tree.{Trees}
use Rattle.aml_objects.specs.declared.value.Value.{Value}
use Rattle.aml_world.specs.state.State.{State}
use Rattle.aml_meaning.specs.Tasks.{Task, in_turn}
use Rattle.aml_meaning.specs.Calls.{invoked}
use Rattle.aml_meaning.specs.Evaluation.{rule}
use Rattle.aml_meaning.specs.Meaning.{evaluated_within, meaning}
use Rattle.aml_meaning.proofs.Agree.{Agree, not_zero}
use Rattle.aml_meaning.proofs.AgreeTerms.{agree_rule}
use Rattle.aml_laws.specs.Counted.{beside_counter, terms_begun, one_more_begun, without_counter, with_counter, outcome_without_counter, counted_within, counted_meaning, begin, begin_and_rule}
use Rattle.aml_laws.proofs.CountedChanges.{RunCounts}
use Rattle.aml_laws.proofs.CountedCalls.{in_turn_counts, invoked_counts}
use Rattle.aml_laws.proofs.CountedRules.{rule_counts}

module _ {S : Type 0} (accesses : Accesses S) where
  -- ---- without the counter

  within_counts : (n : ℕ) (t : Task) (w : State (S × ℕ)) (b : ℕ) → (evaluated_within accesses n t (without_counter w, b) ≡ outcome_without_counter (counted_within accesses n t (w, b)))
      × (terms_begun (counted_within accesses n t (w, b)).1.0 + (counted_within accesses n t (w, b)).1.1 ≤ terms_begun w + b)
  unfolding evaluated_within counted_within
  within_counts zero t w b = (refl, omega arith)
  within_counts (suc n) t w zero = (refl, omega arith)
  within_counts (suc n) t w (suc b) =
      let r = rule_counts accesses (counted_within accesses n) (evaluated_within accesses n) (λ u. record { same = λ s. (within_counts n u s.0 s.1).0; leads = λ s. (within_counts n u s.0 s.1).1 }) t in
      (r.same (one_more_begun w, b), let l = r.leads (one_more_begun w, b) in omega (arith, l))

  pub meaning_counts : (t : Task) → RunCounts (counted_meaning accesses t) (meaning accesses t)
  unfolding counted_meaning meaning
  meaning_counts t = record { same = λ s. (within_counts s.1 t s.0 s.1).0; leads = λ s. (within_counts s.1 t s.0 s.1).1 }

  list_counts : (scope : List Seg) (depth : ℕ) (ts : Trees) → RunCounts (in_turn (counted_meaning accesses) scope depth ts) (in_turn (meaning accesses) scope depth ts)
  list_counts scope depth ts = in_turn_counts accesses (counted_meaning accesses) (meaning accesses) meaning_counts scope depth ts

  call_counts : (depth : ℕ) (p : List Seg) (body : List ℕ) (arguments : List Value) → RunCounts (invoked (counted_meaning accesses) depth p body arguments) (invoked (meaning accesses) depth p body arguments)
  call_counts depth p body arguments = invoked_counts accesses (counted_meaning accesses) (meaning accesses) meaning_counts depth p body arguments

  -- ---- each term is counted where it begins

  same_within : (n m : ℕ) (t : Task) (w : State (S × ℕ)) (b : ℕ) → b ≤ n → n ≤ m → (counted_within accesses n t (w, b) ≡ counted_within accesses m t (w, b)) × ((counted_within accesses n t (w, b)).1.1 ≤ b)
  unfolding counted_within
  same_within zero zero t w b h l = (refl, omega arith)
  same_within zero (suc m) t w zero h l = (refl, omega arith)
  same_within zero (suc m) t w (suc b) h l = absurd (omega arith)
  same_within (suc n) zero t w b h l = absurd (omega arith)
  same_within (suc n) (suc m) t w zero h l = (refl, omega arith)
  same_within (suc n) (suc m) t w (suc b) h l =
      let all : (u : Task) → Agree {S = S × ℕ} n (counted_within accesses n u) (counted_within accesses m u) = λ u. record { same = λ s le. (same_within n m u s.0 s.1 le (omega arith)).0; less = λ s le. (same_within n m u s.0 s.1 le (omega arith)).1 } in
      let a : Agree n (rule (beside_counter accesses) (counted_within accesses n) t) (rule (beside_counter accesses) (counted_within accesses m) t) = agree_rule (beside_counter accesses) (counted_within accesses n) (counted_within accesses m) all t in
      let le : b ≤ n = omega arith in
      (a.same (one_more_begun w, b) le, let d = a.less (one_more_begun w, b) le in omega arith)

  with_enough : (n : ℕ) (u : Task) → Agree {S = S × ℕ} n (counted_within accesses n u) (counted_meaning accesses u)
  unfolding counted_meaning
  with_enough n u = record {
    same = λ s le. sym (same_within s.1 n u s.0 s.1 (omega arith) le).0;
    less = λ s le. (same_within n n u s.0 s.1 le (omega arith)).1;
  }

  begins : (t : Task) (w : State (S × ℕ)) (b : ℕ) → counted_meaning accesses t (w, b) ≡ begin_and_rule accesses t (w, b)
  unfolding counted_meaning counted_within begin ◌>>=◌ go_on
  begins t w zero = refl
  begins t w (suc b) = rw (not_zero b, sub-one) ((agree_rule (beside_counter accesses) (counted_within accesses b) (counted_meaning accesses) (with_enough b) t).same (one_more_begun w, b) (omega arith))

-- ---- what the law says

module _ {S : Type 0} (accesses : Accesses S) where
  pub counted_where_it_begins : (t : Task) (s : State (S × ℕ) × ℕ) → counted_meaning accesses t s ≡ begin_and_rule accesses t s
  counted_where_it_begins t s = begins accesses t s.0 s.1

  pub term_is_the_same : (t : Task) (s : State (S × ℕ) × ℕ) → meaning accesses t (without_counter s.0, s.1) ≡ outcome_without_counter (counted_meaning accesses t s)
  term_is_the_same t s = (meaning_counts accesses t).same s

  pub list_is_the_same : (scope : List Seg) (depth : ℕ) (ts : Trees) (s : State (S × ℕ) × ℕ) → in_turn (meaning accesses) scope depth ts (without_counter s.0, s.1) ≡ outcome_without_counter (in_turn (counted_meaning accesses) scope depth ts s)
  list_is_the_same scope depth ts s = (list_counts accesses scope depth ts).same s

  pub call_is_the_same : (depth : ℕ) (p : List Seg) (body : List ℕ) (arguments : List Value) (s : State (S × ℕ) × ℕ) → invoked (meaning accesses) depth p body arguments (without_counter s.0, s.1) ≡ outcome_without_counter (invoked (counted_meaning accesses) depth p body arguments s)
  call_is_the_same depth p body arguments s = (call_counts accesses depth p body arguments).same s

  pub term_is_bounded : (t : Task) (s : State (S × ℕ) × ℕ) → terms_begun (counted_meaning accesses t s).1.0 + (counted_meaning accesses t s).1.1 ≤ terms_begun s.0 + s.1
  term_is_bounded t s = (meaning_counts accesses t).leads s

  pub list_is_bounded : (scope : List Seg) (depth : ℕ) (ts : Trees) (s : State (S × ℕ) × ℕ) → terms_begun (in_turn (counted_meaning accesses) scope depth ts s).1.0 + (in_turn (counted_meaning accesses) scope depth ts s).1.1 ≤ terms_begun s.0 + s.1
  list_is_bounded scope depth ts s = (list_counts accesses scope depth ts).leads s

  pub call_is_bounded : (depth : ℕ) (p : List Seg) (body : List ℕ) (arguments : List Value) (s : State (S × ℕ) × ℕ) → terms_begun (invoked (counted_meaning accesses) depth p body arguments s).1.0 + (invoked (counted_meaning accesses) depth p body arguments s).1.1 ≤ terms_begun s.0 + s.1
  call_is_bounded depth p body arguments s = (call_counts accesses depth p body arguments).leads s

  pub no_more_than_steps : (t : Task) (w : State S) (steps : ℕ) → terms_begun (counted_meaning accesses t (with_counter 0 w, steps)).1.0 ≤ steps
  no_more_than_steps t w steps = let l = (meaning_counts accesses t).leads (with_counter 0 w, steps) in omega (arith, l)
