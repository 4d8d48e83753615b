-- Searches by the deepest place of a scope below which a path is known.
use Rattle.std.specs.Prelude.{◌≡◌, ◌≤◌, ℕ, zero, suc, List, ◌++◌, length, take, Bool, true, false, ◌||◌, Option, Some, None, option_map, is_some, if◌then◌else◌}
use Rattle.std.proofs.Common.{ap, ◌∙◌, refl, arith}
use Rattle.aml_path.specs.declared.segment.Seg.{Seg}
use Rattle.aml_arities.specs.declared.arities.Arity.{Arity}
use Rattle.aml_arities.specs.Arities.{latest, or_else, arity_at, greatest, is_known_below, search_up}
use Rattle.aml_scan.proofs.Appended.{latest_append}

within_by : (b : Bool) (n k : ℕ) (o : Option ℕ) → ((j : ℕ) → o ≡ Some j → j ≤ n) → (if b then Some (suc n) else o) ≡ Some k → k ≤ suc n
within_by true n k o less is = let e : suc n ≡ k = cc is in omega (arith, e)
within_by false n k o less is = let le = less k is in omega (arith, le)

within_first : (b : Bool) (k : ℕ) → (if b then Some 0 else None) ≡ Some k → k ≤ 0
within_first true k is = let e : 0 ≡ k = cc is in omega (arith, e)
within_first false k is = absurd (cc is)

pub greatest_within : (f : ℕ → Bool) (n k : ℕ) → greatest f n ≡ Some k → k ≤ n
greatest_within f zero k is = within_first (f 0) k is
greatest_within f (suc n) k is = within_by (f (suc n)) n k (greatest f n) (greatest_within f n) is

greatest_same : (f g : ℕ → Bool) → ((k : ℕ) → f k ≡ g k) → (n : ℕ) → greatest f n ≡ greatest g n
greatest_same f g same zero = rw (same 0) refl
greatest_same f g same (suc n) = rw (same (suc n), greatest_same f g same n) refl

module _ (arities : List Arity) (scope segments : List Seg) where
  first_by : (o : Option ℕ) → option_map (λ n. take 0 scope ++ segments) o ≡ option_map (λ k. take k scope ++ segments) (if is_some o then Some 0 else None)
  first_by None = refl
  first_by (Some x) = refl

  next_by : (n : ℕ) (o p : Option ℕ) (q : Option (List Seg)) → q ≡ option_map (λ k. take k scope ++ segments) p
      → or_else (option_map (λ x. take (suc n) scope ++ segments) o) q ≡ option_map (λ k. take k scope ++ segments) (if is_some o then Some (suc n) else p)
  next_by n None p q is = is
  next_by n (Some x) p q is = refl

  pub search_is : (n : ℕ) → search_up arities scope segments n ≡ option_map (λ k. take k scope ++ segments) (greatest (is_known_below arities scope segments) n)
  unfolding search_up
  search_is zero = first_by (arity_at arities (take 0 scope ++ segments))
  search_is (suc n) = next_by n (arity_at arities (take (suc n) scope ++ segments)) (greatest (is_known_below arities scope segments) n) (search_up arities scope segments n) (search_is n)

either_known : {A : Type 0} (a b c d : Option A) → (is_some (or_else a b) || is_some (or_else c d)) ≡ is_some (or_else (or_else a c) (or_else b d))
either_known (Some x) b c d = refl
either_known None (Some y) None d = refl
either_known None (Some y) (Some z) d = refl
either_known None None c d = refl

known_in_both : (xs ys : List Arity) (p : List Seg) → (is_some (arity_at ys p) || is_some (arity_at xs p)) ≡ is_some (arity_at (xs ++ ys) p)
unfolding arity_at
known_in_both xs ys p =
    either_known (latest p false ys) (latest p true ys) (latest p false xs) (latest p true xs)
    ∙ rw (latest_append p false xs ys, latest_append p true xs ys) refl

-- of counts in two parts
pub deepest_in_both : (xs ys : List Arity) (scope segments : List Seg) (n : ℕ)
    → greatest (λ k. is_known_below ys scope segments k || is_known_below xs scope segments k) n ≡ greatest (is_known_below (xs ++ ys) scope segments) n
deepest_in_both xs ys scope segments = greatest_same (λ k. is_known_below ys scope segments k || is_known_below xs scope segments k) (is_known_below (xs ++ ys) scope segments) (λ k. known_in_both xs ys (take k scope ++ segments))
