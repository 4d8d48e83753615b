-- The bits of the links that are left.
use Rattle.std.proofs.Common.{◌≡◌, ◌≢◌, ℕ, ◌+◌, ◌*◌, ◌/◌, ◌%◌, ◌^◌, ◌-◌, ◌<◌, ◌≤◌, List, length, sym, ◌∙◌, ap, arith, get_or, set, inl, inr, get_or-set_same, get_or-set_other}
use Rattle.std.specs.Prelude.{◌⊎◌, bit_and}
use Rattle.std.specs.Int.{bit_at, bit_not, w64}
use Rattle.std.proofs.lemmas.Bool.{cases_eq, cases_lt}
use Rattle.std.proofs.lemmas.List.{get_or_past}
use Rattle.std.proofs.Math.Nat.{mod-eq_of_lt}
use Rattle.std.proofs.lemmas.Nat.{and_le_l, pow_below}
use Rattle.std.proofs.lemmas.Nat.Bits.{bit_at_and, bit_at-lt, bit_at-zero, bit_at_clear_same, bit_at_clear_other, bit_at_mask_below}
use Rattle.route_solve.specs.Ready.{IsCleared}
use Rattle.route_solve.specs.Rows.{bit_of, HasBit}
use mir.Val.{bits}

pub each_bit : (a b k : ℕ) → bit_at (bit_and a b) k ≡ 1 → (bit_at a k ≡ 1) × (bit_at b k ≡ 1)
each_bit a b k h = let e = bit_at_and a b k in let l = bit_at-lt a k in let m = bit_at-lt b k in (omega arith, omega arith)

pub no_hit : (a b k : ℕ) → bit_and a b ≡ 0 → bit_at a k ≡ 1 → bit_at b k ≡ 1 → ⊥
no_hit a b k none f g = let e = bit_at_and a b k in let z = bit_at-zero k in let h = ap (λ x. bit_at x k) none in omega arith

pub hit_is : (rows left : List ℕ) (i w t : ℕ) → t < 64 → bit_at (bit_and (get_or rows (4 * i + w) 0) (get_or left w 0)) t ≡ 1 → ((64 * w + t) / 64 ≡ w) × HasBit left (64 * w + t) × (bit_of rows i (64 * w + t) ≡ 1)
hit_is rows left i w t b h =
    let d : (64 * w + t) / 64 ≡ w = omega arith in
    let m : (64 * w + t) % 64 ≡ t = omega arith in
    let e = each_bit (get_or rows (4 * i + w) 0) (get_or left w 0) t h in
    (d, rw (d, m) e.1, rw (d, m) e.0)

pub bits_below : (lo hi i : ℕ) → bit_at (2 ^ hi - 2 ^ lo) i ≡ 1 → lo ≤ i
bits_below lo hi i h = go (cases_lt i lo)
  where
    go : (i < lo) ⊎ (lo ≤ i) → lo ≤ i
    go (inl less) = let z = bit_at_mask_below lo hi i less in absurd (omega arith)
    go (inr le) = le

pub no_bit_past : (left : List ℕ) (j : ℕ) → length left ≤ j / 64 → HasBit left j → ⊥
no_bit_past left j past h = let e = ap (λ w. bit_at w (j % 64)) (get_or_past left (j / 64) 0 past) in let z = bit_at-zero (j % 64) in omega arith

-- a word without the bit of a link, and all words
abbrev pub less_one : List ℕ → ℕ → ℕ
less_one left link = bit_and (get_or left (link / 64) 0) (bit_not w64 (1 * 2 ^ (link % 64) % 2 ^ bits w64))

abbrev pub without : List ℕ → ℕ → List ℕ
without left link = set left (link / 64) (less_one left link)

module _ (left : List ℕ) (link : ℕ) (four : length left ≡ 4) (few : link < 256) (here : HasBit left link) where
  bit_below : link % 64 < bits w64
  bit_below = omega arith

  at_word : get_or (without left link) (link / 64) 0 ≡ less_one left link
  at_word = get_or-set_same left (link / 64) _ 0 (omega arith)

  other_word : (m : ℕ) → m ≢ link / 64 → get_or (without left link) m 0 ≡ get_or left m 0
  other_word m ne = get_or-set_other left (link / 64) m _ 0 ne

  fewer : less_one left link < get_or left (link / 64) 0
  fewer = go (cases_eq (less_one left link) (get_or left (link / 64) 0))
    where
      less : less_one left link ≤ get_or left (link / 64) 0
      less = and_le_l (get_or left (link / 64) 0) (bit_not w64 (1 * 2 ^ (link % 64) % 2 ^ bits w64))

      gone : bit_at (less_one left link) (link % 64) ≡ 0
      gone = bit_at_clear_same w64 (get_or left (link / 64) 0) (link % 64) bit_below

      go : (less_one left link ≡ get_or left (link / 64) 0) ⊎ (less_one left link ≢ get_or left (link / 64) 0) → less_one left link < get_or left (link / 64) 0
      go (inl same) = let e = ap (λ x. bit_at x (link % 64)) same in let g = gone in absurd (omega arith)
      go (inr ne) = let l = less in omega arith

  pub cleared_is : IsCleared left (without left link) link
  cleared_is =
      record {
        kept = λ k h. kept k h (cases_eq (k / 64) (link / 64));
        others = λ k ne h. others k ne h (cases_eq (k / 64) (link / 64));
        fewer = rw at_word fewer;
      }
    where
      kept : (k : ℕ) → HasBit (without left link) k → (k / 64 ≡ link / 64) ⊎ (k / 64 ≢ link / 64) → HasBit left k
      kept k h (inl e) =
          let f : bit_at (less_one left link) (k % 64) ≡ 1 = sym (ap (λ w. bit_at w (k % 64)) (ap (λ m. get_or (without left link) m 0) e ∙ at_word)) ∙ h in
          ap (λ m. bit_at (get_or left m 0) (k % 64)) e ∙ (each_bit (get_or left (link / 64) 0) (bit_not w64 (1 * 2 ^ (link % 64) % 2 ^ bits w64)) (k % 64) f).0
      kept k h (inr ne) = sym (ap (λ w. bit_at w (k % 64)) (other_word (k / 64) ne)) ∙ h

      others : (k : ℕ) → k ≢ link → HasBit left k → (k / 64 ≡ link / 64) ⊎ (k / 64 ≢ link / 64) → HasBit (without left link) k
      others k ne h (inl e) =
          let apart : k % 64 ≢ link % 64 = λ f. ne (omega arith) in
          let g = bit_at_clear_other w64 (get_or left (link / 64) 0) (link % 64) bit_below (k % 64) (omega arith) apart in
          ap (λ m. bit_at (get_or (without left link) m 0) (k % 64)) e ∙ (ap (λ w. bit_at w (k % 64)) at_word ∙ (g ∙ (ap (λ m. bit_at (get_or left m 0) (k % 64)) (sym e) ∙ h)))
      others k ne h (inr nw) = ap (λ w. bit_at w (k % 64)) (other_word (k / 64) nw) ∙ h

-- the bit of a link
pub one_shl : (k : ℕ) → k < 64 → 1 * 2 ^ k % 2 ^ bits w64 ≡ 2 ^ k
one_shl k b =
    let e = pow_below k 64 b in
    let f : 1 * 2 ^ k ≡ 2 ^ k = omega arith in
    mod-eq_of_lt {n = 1 * 2 ^ k} {m = 2 ^ bits w64} (rw f e) ∙ f
