-- Marked links as a row of bits, and what they offer.
use Rattle.std.proofs.Common.{◌≡◌, ℕ, ◌+◌, ◌*◌, ◌/◌, ◌%◌, ◌<◌, ◌≤◌, Bool, true, false, cond, List, [], length, refl, sym, ◌∙◌, ap, subst, arith, get_or, inl, inr}
use Rattle.std.specs.Prelude.{◌⊎◌, Contains}
use Rattle.std.specs.Int.{bit_at}
use Rattle.std.proofs.lemmas.Bool.{cases_lt, false≢true}
use Rattle.std.proofs.lemmas.List.{get_or_past}
use Rattle.route_model.specs.Placement.{is_reached}
use Rattle.route_model.proofs.Counting.{one_if}
use Rattle.route_solve.specs.Marks.{is_offered_by}
use Rattle.route_numbers.specs.Numbers.{has, number_at, AreTheOffered}
use Rattle.route_solve.specs.Rows.{bit_of, HasBit, HasRows}
use Rattle.route_numbers.proofs.Numbered.{offers_within}
use Rattle.route_solve.proofs.Filtered.{any_contains, contains_any, offered_from, offered_to}
use Rattle.route_solve.proofs.LeftBits.{no_bit_past}

pub marked_within : (marks : List Bool) (l : ℕ) → is_reached marks l ≡ true → l < length marks
marked_within marks l r = go (cases_lt l (length marks))
  where
    go : (l < length marks) ⊎ (length marks ≤ l) → l < length marks
    go (inl b) = b
    go (inr past) = absurd (false≢true (sym (get_or_past marks l false past) ∙ r))

pub bit_to : (row : List ℕ) (l : ℕ) → HasBit row l → bit_of row 0 l ≡ 1
bit_to row l h = let e : l / 64 ≡ 4 * 0 + l / 64 = omega arith in subst (λ m. bit_at (get_or row m 0) (l % 64) ≡ 1) e h

pub bit_from : (row : List ℕ) (l : ℕ) → bit_of row 0 l ≡ 1 → HasBit row l
bit_from row l h = let e : 4 * 0 + l / 64 ≡ l / 64 = omega arith in subst (λ m. bit_at (get_or row m 0) (l % 64) ≡ 1) e h

back : (b : Bool) → one_if b ≡ 1 → b ≡ true
back true e = refl
back false e = absurd (omega arith)

not_true : (b : Bool) → (b ≡ true → ⊥) → b ≡ false
not_true true h = absurd (h refl)
not_true false h = refl

pub unoffered : (offers : List (List ℕ)) (marks : List Bool) (numbers : List ℕ) (n : ℕ) → AreTheOffered offers numbers → (Contains numbers n → ⊥) → is_offered_by offers marks n ≡ false
unoffered offers marks numbers n all none = not_true (is_offered_by offers marks n) (λ h. let w = offered_from offers marks n h in none (any_contains n numbers (all.all w.0 n w.2)))

module _ (offers : List (List ℕ)) (marks : List Bool) (numbers rows row : List ℕ) (few : length offers ≤ 256) (bits : HasRows offers numbers rows) (four : length row ≡ 4) (all : (l : ℕ) → is_reached marks l ≡ true → bit_of row 0 l ≡ 1) (only : (l : ℕ) → l < 256 → bit_of row 0 l ≡ 1 → is_reached marks l ≡ true) (n i : ℕ) (within : i < length numbers) (is : number_at numbers i ≡ n) where
  bit_is : (l : ℕ) → l < 256 → bit_of rows i l ≡ cond (has (get_or offers l []) n) 1 0
  bit_is l b = bits.bits l i b within ∙ ap (λ m. cond (has (get_or offers l []) m) 1 0) is

  below : (l : ℕ) → HasBit row l → l < 256
  below l h = go (cases_lt l 256)
    where
      go : (l < 256) ⊎ (256 ≤ l) → l < 256
      go (inl b) = b
      go (inr past) = absurd (no_bit_past row l (omega arith) h)

  pub offered_yes : (l : ℕ) × HasBit row l × (bit_of rows i l ≡ 1) → is_offered_by offers marks n ≡ true
  offered_yes w =
      let b = below w.0 w.1 in
      offered_to offers marks n w.0 (only w.0 b (bit_to row w.0 w.1)) (any_contains n (get_or offers w.0 []) (back (has (get_or offers w.0 []) n) (sym (bit_is w.0 b) ∙ w.2)))

  pub offered_no : ((l : ℕ) → l < 256 → HasBit row l → bit_of rows i l ≡ 1 → ⊥) → is_offered_by offers marks n ≡ false
  offered_no none = not_true (is_offered_by offers marks n) (λ h. let w = offered_from offers marks n h in let b = offers_within offers w.0 n w.2 in let under : w.0 < 256 = omega arith in none w.0 under (bit_from row w.0 (all w.0 w.1)) (bit_is w.0 under ∙ ap (λ b. cond b 1 0) (contains_any n (get_or offers w.0 []) w.2)))
