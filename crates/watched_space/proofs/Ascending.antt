-- What is found among ascending numbers, and what an edit at that place makes.
use Rattle.std.proofs.Common.{◌≡◌, ◌∙◌, ℕ, zero, suc, ◌+◌, ◌-◌, ◌<◌, ◌≤◌, ◌≢◌, Bool, true, false, [], ◌∷◌, length, get_or, set, Some, None, Result, Ok, Err, IfOk, IfErr, if◌then◌else◌, refl, sym, ap, subst, arith}
use Rattle.std.specs.Prelude.{is_ok, nat_lt}
use Rattle.std.specs.List.{insert}
use Rattle.std.specs.List.Sorted.{IsSearchInRange, IsBinarySearchResult, IsNonDecreasingBy}
use Rattle.std.specs.Ordering.{nat_cmp, ordering_index}
use Rattle.std.proofs.lemmas.Cmp.{ranked}
use Rattle.std.proofs.lemmas.List.Sorted.{IsNonDecreasingBy-from_default}
use Rattle.std.proofs.lemmas.List.Edits.{length-insert, get_or-insert_below, get_or-insert_at, get_or-insert_above}
use Rattle.std.proofs.lemmas.Bool.Decides.{nat_tests}
use Rattle.std.proofs.lemmas.Grind.{common_steps}
use Rattle.watched_space.specs.NumberedBytes.{Numbered, byte_of, with_byte, read_known, read_zero, written_known, written_zero, number_at, IsAscending, IsAt, IsGapFor}

-- the numbers before place i are smaller
abbrev SmallerBefore : Numbered → ℕ → ℕ → Type 0
SmallerBefore l k i = (j : ℕ) → j < i → number_at l j < k

smaller_tail : (x : ℕ × ℕ) (l : Numbered) (k i : ℕ) → SmallerBefore (x ∷ l) k (suc i) → SmallerBefore l k i
smaller_tail x l k i smaller j lt = smaller (suc j) (omega (arith, lt))

at_tail : (x : ℕ × ℕ) (l : Numbered) (k i : ℕ) → IsAt (x ∷ l) k (suc i) → IsAt l k i
at_tail x l k i at = record { in_range = omega (arith, at.in_range); is = at.is }

gap_tail : (x : ℕ × ℕ) (l : Numbered) (k i : ℕ) → IsGapFor (x ∷ l) k (suc i) → IsGapFor l k i
gap_tail x l k i gap = record {
  in_range = omega (arith, gap.in_range);
  smaller_before = smaller_tail x l k i gap.smaller_before;
  greater_after = λ j le lt. gap.greater_after (suc j) (omega (arith, le)) (omega (arith, lt));
}

found_at : (l : Numbered) (k i : ℕ) → IsAt l k i → SmallerBefore l k i → byte_of l k ≡ Some (get_or l i (0, 0)).1
found_at [] k i at smaller = absurd (omega (arith, at.in_range))
found_at (x ∷ l) k zero at smaller = grind (arith, nat_tests, at.is)
found_at (x ∷ l) k (suc i) at smaller = grind (arith, nat_tests, smaller 0 (omega arith), found_at l k i (at_tail x l k i at) (smaller_tail x l k i smaller))

set_at : (l : Numbered) (k v i : ℕ) → IsAt l k i → SmallerBefore l k i → set l i (k, v) ≡ with_byte l k v
set_at [] k v i at smaller = absurd (omega (arith, at.in_range))
set_at (x ∷ l) k v zero at smaller = grind (arith, nat_tests, at.is)
set_at (x ∷ l) k v (suc i) at smaller = grind (arith, nat_tests, smaller 0 (omega arith), set_at l k v i (at_tail x l k i at) (smaller_tail x l k i smaller))

pub absent_in_gap : (l : Numbered) (k i : ℕ) → IsGapFor l k i → byte_of l k ≡ None
absent_in_gap [] k i gap = refl
absent_in_gap (x ∷ l) k zero gap = grind (
  arith,
  nat_tests,
  gap.greater_after 0 (omega arith) (omega arith),
  absent_in_gap l k zero (record {
    in_range = omega arith;
    smaller_before = λ j lt. absurd (omega (arith, lt));
    greater_after = λ j le lt. gap.greater_after (suc j) (omega arith) (omega (arith, lt));
  }),
)
absent_in_gap (x ∷ l) k (suc i) gap = grind (arith, nat_tests, gap.smaller_before 0 (omega arith), absent_in_gap l k i (gap_tail x l k i gap))

pub insert_in_gap : (l : Numbered) (k v i : ℕ) → IsGapFor l k i → insert l i (k, v) ≡ with_byte l k v
insert_in_gap [] k v zero gap = refl
insert_in_gap [] k v (suc i) gap = absurd (omega (arith, gap.in_range))
insert_in_gap (x ∷ l) k v zero gap = grind (arith, nat_tests, gap.greater_after 0 (omega arith) (omega arith))
insert_in_gap (x ∷ l) k v (suc i) gap = grind (arith, nat_tests, gap.smaller_before 0 (omega arith), insert_in_gap l k v i (gap_tail x l k i gap))

module _ (l : Numbered) (ascends : IsAscending l) (k : ℕ) where
  -- the comparisons with k rise along the list, as a search by halves asks
  comparisons_rise : IsNonDecreasingBy (λ entry. ordering_index (nat_cmp entry.0 k)) l
  comparisons_rise = IsNonDecreasingBy-from_default (λ entry. ordering_index (nat_cmp entry.0 k)) l (0, 0) (λ i j le in_range.
      let rise : number_at l i ≤ number_at l j = grind (arith, ascends i j, λ (same : i ≡ j). ap (number_at l) same) in
      grind (arith, nat_tests))

  pub searched : (r : Result ℕ ℕ) → IsSearchInRange r (length l) → IsBinarySearchResult (λ entry. nat_cmp entry.0 k) l r
      → record { found : IfOk r (IsAt l k); absent : IfErr r (IsGapFor l k) }
  searched (Ok at) in_range equal = record { found = record { in_range = in_range; is = ranked _ k _ (sym (equal (0, 0))) }; absent = tt }
  searched (Err at) in_range parted = record {
    found = tt;
    absent = record {
      in_range = in_range;
      smaller_before = λ j lt. ranked _ k _ (sym ((parted comparisons_rise).0 j (0, 0) (omega arith) lt));
      greater_after = λ j le lt. ranked _ k _ (sym ((parted comparisons_rise).1 j (0, 0) le lt));
    };
  }

module _ (l : Numbered) (ascends : IsAscending l) (k at : ℕ) (is_at : IsAt l k at) where
  smaller_before_at : SmallerBefore l k at
  smaller_before_at j lt = omega (arith, ascends j at lt is_at.in_range, is_at.is)

  pub byte_at : byte_of l k ≡ Some (get_or l at (0, 0)).1
  byte_at = found_at l k at is_at smaller_before_at

  pub set_is : (v : ℕ) → set l at (k, v) ≡ with_byte l k v
  set_is v = set_at l k v at is_at smaller_before_at

  -- a byte over another one keeps the order, since every number stays
  pub ascends_set : (v : ℕ) → IsAscending (set l at (k, v))
  ascends_set v i j lt in_range = grind (arith, common_steps, ascends i j, ascends i at, ascends at j, is_at.in_range, is_at.is)

module _ (l : Numbered) (k at : ℕ) (gap : IsGapFor l k at) where
  -- so does a new one: each number is an old one below the gap, k at it, or an old one moved up by one
  pub ascends_insert : (v : ℕ) → IsAscending l → IsAscending (insert l at (k, v))
  ascends_insert v ascends i j lt in_range =
      let new = insert l at (k, v) in
      let number = λ (x : ℕ × ℕ). x.0 in
      let length_new = length-insert l at (k, v) gap.in_range in
      let below : (i : ℕ) → i < at → number_at new i ≡ number_at l i = λ i is. ap number (get_or-insert_below l at (k, v) (0, 0) i is gap.in_range) in
      let here : (i : ℕ) → i ≡ at → number_at new i ≡ k = λ i is. rw is (ap number (get_or-insert_at l at (k, v) (0, 0) gap.in_range)) in
      let above : (i : ℕ) → at < i → number_at new i ≡ number_at l (i - 1) = λ i is.
      subst (λ q. number_at new q ≡ number_at l (i - 1)) {x = i - 1 + 1} (omega arith) (ap number (get_or-insert_above l at (k, v) (0, 0) (i - 1) (omega arith) gap.in_range)) in
      grind (arith, below i, here i, above i, below j, here j, above j, ascends i j, ascends i (j - 1), ascends (i - 1) (j - 1), gap.smaller_before i, gap.greater_after (j - 1))

-- ---- what the calls answer

pub placed_ok : {A E X : Type 0} (r : Result A E) (a b : X) → is_ok r ≡ true → (if is_ok r then a else b) ≡ a
placed_ok (Ok x) a b ok = refl
placed_ok (Err e) a b ok = absurd (cc ok)

pub read_at : (l : Numbered) (k byte : ℕ) → byte_of l k ≡ Some byte → read_zero l k ≡ (Some byte, l)
read_at l k byte is = ap (read_known l k) is

pub read_new : (l : Numbered) (k : ℕ) → byte_of l k ≡ None → nat_lt (length l) 4096 ≡ true → read_zero l k ≡ (Some 0, with_byte l k 0)
read_new l k none room = ap (read_known l k) none ∙ ap (λ b. if b then (Some 0, with_byte l k 0) else (None, l)) room

pub read_full : (l : Numbered) (k : ℕ) → byte_of l k ≡ None → nat_lt (length l) 4096 ≡ false → read_zero l k ≡ (None, l)
read_full l k none room = ap (read_known l k) none ∙ ap (λ b. if b then (Some 0, with_byte l k 0) else (None, l)) room

pub written_at : (l : Numbered) (k byte before : ℕ) → byte_of l k ≡ Some before → written_zero l k byte ≡ (true, with_byte l k byte)
written_at l k byte before is = ap (written_known l k byte) is

pair_by : {X : Type 0} (b : Bool) (x y : X) → ◌≡◌ {A = Bool × X} (if b then (true, x) else (false, y)) (b, if b then x else y)
pair_by true x y = refl
pair_by false x y = refl

pub written_new : (l : Numbered) (k byte : ℕ) → byte_of l k ≡ None
    → ◌≡◌ {A = Bool × Numbered} (written_zero l k byte) (nat_lt (length l) 4096, if nat_lt (length l) 4096 then with_byte l k byte else l)
written_new l k byte none = ap (written_known l k byte) none ∙ pair_by (nat_lt (length l) 4096) (with_byte l k byte) l
