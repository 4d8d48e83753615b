-- The first place of a byte, of a text that is read in two parts.
use Rattle.std.proofs.Common.{◌≡◌, ℕ, ◌+◌, ◌-◌, ◌≤◌, Bool, cond, not, List, length, take, drop, map, sym, ap, ◌∙◌, arith, ◌==◌}
use Rattle.std.proofs.Common.{length-drop, take-append-drop}
use Rattle.std.specs.List.{position_or_len}
use Rattle.std.proofs.lemmas.Bool.{cond-true, cond-false, eq-eqb, ne_eqb}
use Rattle.std.proofs.lemmas.List.{length-take-le, take_all}
use Rattle.std.proofs.lemmas.List.Folds.{prefix_len-append}
use Rattle.std.proofs.lemmas.List.Sums.{prefix_len-le-length}
use Rattle.std.proofs.lemmas.Simd.{first_set_mask_l}
use Rattle.std.specs.Int.Count.{count_trailing_zeros}
use lib.Lanes.{mask_l}

-- the lowest bit of a mask of the bytes that are that byte
pub first_marked : (mask byte n : ℕ) (xs : List ℕ) → length xs ≡ n → n ≤ 64 → mask ≡ mask_l (map (λ b. b == byte) xs) → (mask ≡ 0 → ⊥)
    → count_trailing_zeros 64 mask ≡ position_or_len (λ b. b == byte) xs
first_marked mask byte n xs long few is some =
    let all = first_set_mask_l (λ b. b == byte) xs n long few in
    ap (count_trailing_zeros 64) is ∙ sym (cond-false _ _ _ (ne_eqb _ _ (λ none. some (is ∙ none)))) ∙ all

module _ (p : ℕ → Bool) (xs : List ℕ) (n : ℕ) (enough : n ≤ length xs) where
  size : length (take n xs) ≡ n
  size = length-take-le n xs enough

  whole : position_or_len p xs
      ≡ cond (position_or_len p (take n xs) == length (take n xs)) (length (take n xs) + position_or_len p (drop n xs)) (position_or_len p (take n xs))
  whole = ap (position_or_len p) (sym (take-append-drop n xs)) ∙ prefix_len-append (λ x. not (p x)) (take n xs) (drop n xs)

  -- it doesn't stand in the first part
  pub stands_far : (r s : ℕ) → r ≡ position_or_len p (take n xs) → n ≤ r → s ≡ position_or_len p (take (length xs - n) (drop n xs)) → n + s ≡ position_or_len p xs
  stands_far r s is le behind =
      let at_most = prefix_len-le-length (λ x. not (p x)) (take n xs) in
      let all : position_or_len p (take n xs) ≡ length (take n xs) = omega (arith, at_most, size, is, le) in
      let rest = ap (position_or_len p) (take_all (length xs - n) (drop n xs) (omega (arith, length-drop n xs))) in
      let sum : n + s ≡ length (take n xs) + position_or_len p (drop n xs) = omega (arith, size, behind, rest) in
      sum ∙ sym (whole ∙ cond-true _ _ _ (eq-eqb _ _ all))
