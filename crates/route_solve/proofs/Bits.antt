-- Setting one bit of a row.
use Rattle.std.proofs.Common.{◌≡◌, ◌≢◌, ℕ, ◌+◌, ◌*◌, ◌/◌, ◌%◌, ◌^◌, ◌<◌, ◌≤◌, List, length, sym, ◌∙◌, ap, arith, get_or, set, inl, inr, max, get_or-set_same, get_or-set_other}
use Rattle.std.specs.Prelude.{◌⊎◌}
use Rattle.std.specs.Int.{bit_at, w64}
use Rattle.std.specs.Int.RustNames.{bit_or}
use Rattle.std.proofs.lemmas.Nat.Bits.{bit_at_or, bit_at-lt, bit_at_set_same, bit_at_set_other}
use Rattle.std.proofs.lemmas.Bool.{cases_eq}
use Rattle.route_solve.specs.Rows.{bit_of}
use mir.Val.{bits}

-- the words with a bit of one of them set
abbrev pub with_bit : List ℕ → ℕ → ℕ → List ℕ
with_bit words at k = set words at (bit_or (get_or words at 0) (1 * 2 ^ k % 2 ^ bits w64))

module _ (words : List ℕ) (i link : ℕ) (b : 4 * i + 4 ≤ length words) (few : link < 256) where
  at : ℕ
  at = 4 * i + link / 64

  within : 4 * i + link / 64 < length words
  within = omega arith

  bit_below : link % 64 < bits w64
  bit_below = omega arith

  pub bit_set : bit_of (with_bit words (4 * i + link / 64) (link % 64)) i link ≡ 1
  bit_set = ap (λ w. bit_at w (link % 64)) (get_or-set_same words (4 * i + link / 64) _ 0 within) ∙ bit_at_set_same w64 (get_or words (4 * i + link / 64) 0) (link % 64) bit_below

  word : (m : ℕ) (k : ℕ) → (m ≡ 4 * i + link / 64) ⊎ (m ≢ 4 * i + link / 64) → bit_at (get_or words m 0) k ≡ 1 → bit_at (get_or (with_bit words (4 * i + link / 64) (link % 64)) m 0) k ≡ 1
  word m k (inl e) h =
      let v = get_or words (4 * i + link / 64) 0 in
      let c = 1 * 2 ^ (link % 64) % 2 ^ bits w64 in
      let g = bit_at_or v c k in
      let f = bit_at-lt c k in
      let old : bit_at v k ≡ 1 = ap (λ j. bit_at (get_or words j 0) k) (sym e) ∙ h in
      let one : max (bit_at v k) (bit_at c k) ≡ 1 = omega arith in
      rw e (ap (λ w. bit_at w k) (get_or-set_same words (4 * i + link / 64) _ 0 within) ∙ (g ∙ one))
  word m k (inr ne) h = ap (λ w. bit_at w k) (get_or-set_other words (4 * i + link / 64) m _ 0 ne) ∙ h

  pub bit_kept : (l j : ℕ) → bit_of words j l ≡ 1 → bit_of (with_bit words (4 * i + link / 64) (link % 64)) j l ≡ 1
  bit_kept l j h = word (4 * j + l / 64) (l % 64) (cases_eq (4 * j + l / 64) (4 * i + link / 64)) h

  pub bit_only : (l j : ℕ) → l < 256 → bit_of (with_bit words (4 * i + link / 64) (link % 64)) j l ≡ 1 → (bit_of words j l ≡ 1) ⊎ ((j ≡ i) × (l ≡ link))
  bit_only l j below h = go (cases_eq (4 * j + l / 64) (4 * i + link / 64)) (cases_eq (l % 64) (link % 64))
    where
      go : (4 * j + l / 64 ≡ 4 * i + link / 64) ⊎ (4 * j + l / 64 ≢ 4 * i + link / 64) → (l % 64 ≡ link % 64) ⊎ (l % 64 ≢ link % 64) → (bit_of words j l ≡ 1) ⊎ ((j ≡ i) × (l ≡ link))
      go (inl e) (inl f) = inr (omega arith, omega arith)
      go (inl e) (inr ne) =
          let v = get_or words (4 * i + link / 64) 0 in
          let other = bit_at_set_other w64 v (link % 64) bit_below (l % 64) ne in
          inl (ap (λ m. bit_at (get_or words m 0) (l % 64)) e ∙ (sym other ∙ (sym (ap (λ w. bit_at w (l % 64)) (get_or-set_same words (4 * i + link / 64) _ 0 within)) ∙ (ap (λ m. bit_at (get_or (with_bit words (4 * i + link / 64) (link % 64)) m 0) (l % 64)) (sym e) ∙ h))))
      go (inr ne) f = inl (sym (ap (λ w. bit_at w (l % 64)) (get_or-set_other words (4 * i + link / 64) (4 * j + l / 64) _ 0 ne)) ∙ h)
