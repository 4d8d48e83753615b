-- What follows for walks of a known number of levels or turns.
use Rattle.std.specs.Prelude.{◌≡◌, Bool, ℕ, zero, suc, ◌-◌, ◌<◌, List, [], ◌∷◌, length, refl}
use Rattle.std.proofs.Common.{◌∙◌, ap, arith}
use Rattle.aml_marks.specs.Marked.{Place, Walk, after, gives, a_term, a_term_in, turns_of, to_end, no_term}

pub no_levels : (count : ℕ → ℕ) (levels : ℕ) (element : Bool) (p : Place) → levels ≡ 0 → a_term count levels element p ≡ (no_term, p)
unfolding a_term gives
no_levels count levels element p e = rw e refl

pub some_levels : (count : ℕ → ℕ) (levels : ℕ) (element : Bool) (p : Place) → 0 < levels → a_term count levels element p ≡ a_term_in (a_term count (levels - 1)) count element p
unfolding a_term
some_levels count levels element p lt = let k : levels ≡ suc (levels - 1) = omega arith in ap (λ n. a_term count n element p) k

module _ {A : Type 0} (m : Walk A) where
  pub no_turns : (n : ℕ) (p : Place) → n ≡ 0 → turns_of m n p ≡ ([], p)
  unfolding turns_of gives
  no_turns n p e = rw e refl

  pub some_turns : (n : ℕ) (p : Place) → 0 < n → turns_of m n p ≡ ((m p).0 ∷ (turns_of m (n - 1) (m p).1).0, (turns_of m (n - 1) (m p).1).1)
  unfolding turns_of after gives
  some_turns n p lt = let k : n ≡ suc (n - 1) = omega arith in ap (λ j. turns_of m j p) k

  over_of : (n : ℕ) (p : Place) (bs : List ℕ) → p.rest ≡ bs → length bs ≡ 0 → to_end m n p ≡ ([], p)
  unfolding to_end gives
  over_of zero p bs is none = refl
  over_of (suc n) p [] is none = rw is refl
  over_of (suc n) p (b ∷ bs) is none = absurd (omega arith)

  one_of : (n : ℕ) (p : Place) (bs : List ℕ) → p.rest ≡ bs → 0 < length bs → to_end m (suc n) p ≡ ((m p).0 ∷ (to_end m n (m p).1).0, (to_end m n (m p).1).1)
  unfolding to_end after gives
  one_of n p [] is some = absurd (omega arith)
  one_of n p (b ∷ bs) is some = rw is refl

  pub at_end : (n : ℕ) (p : Place) → length p.rest ≡ 0 → to_end m n p ≡ ([], p)
  at_end n p none = over_of n p p.rest refl none

  pub no_more : (n : ℕ) (p : Place) → n ≡ 0 → to_end m n p ≡ ([], p)
  unfolding to_end
  no_more n p e = rw e refl

  pub one_more : (n : ℕ) (p : Place) → 0 < n → 0 < length p.rest → to_end m n p ≡ ((m p).0 ∷ (to_end m (n - 1) (m p).1).0, (to_end m (n - 1) (m p).1).1)
  one_more n p lt some = let k : n ≡ suc (n - 1) = omega arith in ap (λ j. to_end m j p) k ∙ one_of (n - 1) p p.rest refl some

pub ruleset walking = (no_levels, some_levels, no_turns, some_turns, at_end, no_more, one_more)
