-- The row of an interrupt.
use Rattle.std.proofs.Common.{◌≡◌, ℕ, ◌+◌, ◌*◌, ◌/◌, ◌%◌, ◌<◌, ◌≤◌, Bool, true, false, cond, List, [], length, refl, sym, ◌∙◌, ap, subst, arith, get_or, inl, inr}
use Rattle.std.specs.Prelude.{◌⊎◌, ◌↔◌}
use Rattle.std.specs.Int.{bit_at}
use Rattle.std.specs.List.Sorted.{IsStrictlyIncreasing}
use Rattle.std.proofs.lemmas.Nat.Bits.{bit_at-zero, bit_at-lt}
use Rattle.std.proofs.lemmas.Bool.{true≢false, cases_lt}
use Rattle.std.proofs.lemmas.List.{get_or_past}
use Rattle.route_model.specs.Placement.{Offers}
use Rattle.route_model.proofs.Filtered.{any_contains, contains_any}
use Rattle.route_model.proofs.Hall.{zero_or_more}
use Rattle.route_model.proofs.Counting.{one_if}
use Rattle.route_numbers.specs.Numbers.{has, number_at, IsNumbered}
use Rattle.route_solve.specs.Rows.{bit_of, HasBit, IsRow, AreRows, HasRows}
use Rattle.route_numbers.proofs.Numbered.{offers_named, offers_unnamed, offers_within, one_place}

pub has_rows : (offers : List (List ℕ)) (numbers : List ℕ) (places : List (List ℕ)) (words : List ℕ) → IsStrictlyIncreasing numbers → IsNumbered offers numbers places → AreRows places (length numbers) words → HasRows offers numbers words
has_rows offers numbers places words up named rows = record { long = rows.long; bits = λ l i bl bi. go l i bl bi (has (get_or offers l []) (number_at numbers i)) refl }
  where
    go : (l i : ℕ) → l < 256 → i < length numbers → (b : Bool) → has (get_or offers l []) (number_at numbers i) ≡ b → bit_of words i l ≡ cond (has (get_or offers l []) (number_at numbers i)) 1 0
    go l i bl bi true e =
        let o : Offers offers l (number_at numbers i) = any_contains (number_at numbers i) (get_or offers l []) e in
        let w = offers_unnamed (number_at numbers) places l (number_at numbers i) (subst (λ (os : List (List ℕ)). Offers os l (number_at numbers i)) (sym named.named) o) in
        let same = one_place numbers up w.0 i (named.below l w.0 w.1) bi w.2 in
        rows.has l i bl bi (subst (Offers places l) same w.1) ∙ sym (ap (λ b. cond b 1 0) e)
    go l i bl bi false e = bit (zero_or_more (bit_of words i l)) ∙ sym (ap (λ b. cond b 1 0) e)
      where
        bit : (bit_of words i l ≡ 0) ⊎ (0 < bit_of words i l) → bit_of words i l ≡ 0
        bit (inl z) = z
        bit (inr more) =
            let one : bit_of words i l ≡ 1 = let lt = bit_at-lt (get_or words (4 * i + l / 64) 0) (l % 64) in omega arith in
            let o = subst (λ (os : List (List ℕ)). Offers os l (number_at numbers i)) named.named (offers_named (number_at numbers) places l i (rows.only l i bl bi one)) in
            absurd (true≢false (sym (contains_any (number_at numbers i) (get_or offers l []) o) ∙ e))

pub row_is : (offers : List (List ℕ)) (numbers words row : List ℕ) (n i : ℕ) → HasRows offers numbers words → length offers ≤ 256 → i < length numbers → number_at numbers i ≡ n → length row ≡ 4 → ((k : ℕ) → k < 4 → get_or row k 0 ≡ get_or words (4 * i + k) 0) → IsRow offers n row
row_is offers numbers words row n i rows few bi is four same l = go (cases_lt l 256)
  where
    go : (l < 256) ⊎ (256 ≤ l) → HasBit row l ↔ Offers offers l n
    go (inl bl) =
        let word = ap (λ w. bit_at w (l % 64)) (same (l / 64) (omega arith)) in
        let bits : bit_at (get_or row (l / 64) 0) (l % 64) ≡ cond (has (get_or offers l []) n) 1 0 = word ∙ (rows.bits l i bl bi ∙ ap (λ m. cond (has (get_or offers l []) m) 1 0) is) in (
          λ h. any_contains n (get_or offers l []) (back (has (get_or offers l []) n) (sym bits ∙ h)),
          λ o. bits ∙ ap (λ b. cond b 1 0) (contains_any n (get_or offers l []) o),
        )
      where
        back : (b : Bool) → one_if b ≡ 1 → b ≡ true
        back true e = refl
        back false e = absurd (omega arith)
    go (inr past) = (
      λ h. absurd (let z = ap (λ w. bit_at w (l % 64)) (get_or_past row (l / 64) 0 (omega arith)) ∙ bit_at-zero (l % 64) in omega arith),
      λ o. absurd (let b = offers_within offers l n o in omega arith),
    )
