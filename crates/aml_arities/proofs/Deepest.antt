-- The greatest number up to a bound of which something holds, and the deepest place of a scope below which some segments have a count.
use Rattle.std.specs.Prelude.{◌≡◌, ◌+◌, ◌<◌, ◌≤◌, ℕ, zero, suc, List, [], ◌∷◌, ◌++◌, length, take, get_or, Bool, true, false, ◌&&◌, ◌||◌, nat_lt, Option, Some, None, is_some, if◌then◌else◌}
use Rattle.std.proofs.Common.{ap, sym, ◌∙◌, refl, arith, add-one, append_assoc, inl, inr}
use Rattle.std.proofs.lemmas.Bool.{cases_lt}
use Rattle.std.proofs.lemmas.Bool.Decides.{nat_tests}
use Rattle.aml_path.specs.declared.segment.Seg.{Seg}
use Rattle.aml_arities.specs.declared.arities.Arity.{Arity}
use Rattle.aml_arities.specs.declared.arities.Entry.{Entry}
use Rattle.aml_arities.specs.Arities.{latest, or_else, arity_at, greatest, is_known_below, is_told_below}
use Rattle.aml_arities.specs.PathTree.{number_of}
use Rattle.aml_arities.specs.Counts.{Counted, shown, count_at, is_shown, is_shown_below, arities_of, Holds}
use Rattle.aml_arities.proofs.PathTrees.{number_is}

-- ---- the greatest number

pub greatest_same : (f g : ℕ → Bool) → ((k : ℕ) → f k ≡ g k) → (n : ℕ) → greatest f n ≡ greatest g n
greatest_same f g same zero = rw (same 0) refl
greatest_same f g same (suc n) = rw (same (suc n), greatest_same f g same n) refl

pub greatest_next : (f : ℕ → Bool) (n : ℕ) → greatest f (n + 1) ≡ (if f (n + 1) then Some (n + 1) else greatest f n)
greatest_next f n = rw (add-one n) refl

-- where it holds of none behind a number
pub greatest_ends : (f : ℕ → Bool) (n m : ℕ) → n ≤ m → ((k : ℕ) → n < k → f k ≡ false) → greatest f m ≡ greatest f n
greatest_ends f n zero le none = let e : zero ≡ n = omega (arith, le) in ap (greatest f) e
greatest_ends f n (suc m) le none = elim (cases_lt n (suc m)) [
  | inl lt ↦ rw (none (suc m) lt) refl ∙ greatest_ends f n m (omega (arith, lt)) none
  | inr ge ↦ (let e : suc m ≡ n = omega (arith, le, ge) in ap (greatest f) e)
]

within_by : (b : Bool) (n k : ℕ) (o : Option ℕ) → ((j : ℕ) → o ≡ Some j → j ≤ n) → (if b then Some (suc n) else o) ≡ Some k → k ≤ suc n
within_by true n k o less is = let e : suc n ≡ k = cc is in omega (arith, e)
within_by false n k o less is = let le = less k is in omega (arith, le)

within_first : (b : Bool) (k : ℕ) → (if b then Some 0 else None) ≡ Some k → k ≤ 0
within_first true k is = let e : 0 ≡ k = cc is in omega (arith, e)
within_first false k is = absurd (cc is)

greatest_within : (f : ℕ → Bool) (n k : ℕ) → greatest f n ≡ Some k → k ≤ n
greatest_within f zero k is = within_first (f 0) k is
greatest_within f (suc n) k is = within_by (f (suc n)) n k (greatest f n) (greatest_within f n) is

-- ---- of two

abbrev pub greater : Option ℕ → Option ℕ → Option ℕ
greater None o = o
greater (Some a) None = Some a
greater (Some a) (Some b) = if nat_lt a b then Some b else Some a

either_first : (a b : Bool) → greater (if a then Some 0 else None) (if b then Some 0 else None) ≡ (if a || b then Some 0 else None)
either_first true true = refl
either_first true false = refl
either_first false true = refl
either_first false false = refl

same_either : (b : Bool) (o : Option ℕ) → (if b then o else o) ≡ o
same_either true o = refl
same_either false o = refl

over_less : (n : ℕ) (o : Option ℕ) → ((k : ℕ) → o ≡ Some k → k ≤ n) → greater (Some (suc n)) o ≡ Some (suc n)
over_less n None less = refl
over_less n (Some k) less = let le = less k refl in let test : nat_lt (suc n) k ≡ false = grind (arith, nat_tests) in rw test refl

under_more : (n : ℕ) (o : Option ℕ) → ((k : ℕ) → o ≡ Some k → k ≤ n) → greater o (Some (suc n)) ≡ Some (suc n)
under_more n None less = refl
under_more n (Some k) less = let le = less k refl in let test : nat_lt k (suc n) ≡ true = grind (arith, nat_tests) in rw test refl

either_next : (a b : Bool) (n : ℕ) (o p r : Option ℕ) → ((k : ℕ) → o ≡ Some k → k ≤ n) → ((k : ℕ) → p ≡ Some k → k ≤ n) → greater o p ≡ r
    → greater (if a then Some (suc n) else o) (if b then Some (suc n) else p) ≡ (if a || b then Some (suc n) else r)
either_next true true n o p r less more is = same_either (nat_lt (suc n) (suc n)) (Some (suc n))
either_next true false n o p r less more is = over_less n p more
either_next false true n o p r less more is = under_more n o less
either_next false false n o p r less more is = is

either : (f g : ℕ → Bool) (n : ℕ) → greater (greatest f n) (greatest g n) ≡ greatest (λ k. f k || g k) n
either f g zero = either_first (f 0) (g 0)
either f g (suc n) = either_next (f (suc n)) (g (suc n)) n (greatest f n) (greatest g n) (greatest (λ k. f k || g k) n) (greatest_within f n) (greatest_within g n) (either f g n)

pub greater_is : (f g : ℕ → Bool) (n : ℕ) (first second result : Option ℕ) → result ≡ greater first second → first ≡ greatest f n → second ≡ greatest g n → result ≡ greatest (λ k. f k || g k) n
greater_is f g n first second result is one other = is ∙ rw (one, other) refl ∙ either f g n

-- ---- counts below a scope

take_past : {A : Type 0} (xs : List A) (i k : ℕ) (x : A) → i < length xs → x ≡ get_or xs i x → i < k → (rest : List A) × (take k xs ≡ take i xs ++ x ∷ rest)
take_past [] i k x lt at more = absurd (omega (arith, lt))
take_past (y ∷ ys) i zero x lt at more = absurd (omega (arith, more))
take_past (y ∷ ys) zero (suc k) x lt at more = (take k ys, ap (λ z. z ∷ take k ys) (sym at))
take_past (y ∷ ys) (suc i) (suc k) x lt at more = let h = take_past ys i k x (omega (arith, lt)) at (omega (arith, more)) in (h.0, ap (λ l. y ∷ l) h.1)

or_no : (b : Bool) → (b || false) ≡ b
or_no true = refl
or_no false = refl

and_no : (b : Bool) → (b && false) ≡ false
and_no true = refl
and_no false = refl

module _ (any : Bool) (t : Counted) (scope segments : List Seg) where
  -- where a part of the scope has a number
  pub shown_here : (i node : ℕ) → number_of (take i scope) t.paths ≡ Some node → is_shown any t (get_or t.paths node [] ++ segments) ≡ is_shown_below any t scope segments i
  shown_here i node is = ap (λ (p : List Seg). is_shown any t (p ++ segments)) (number_is (take i scope) t.paths node is).1

  nothing : (path : List Seg) → number_of path t.paths ≡ None → is_shown any t path ≡ false
  nothing path none = rw none (and_no any)

  -- where the next part has none, nothing below it has a count
  pub ends_here : (i : ℕ) (s : Seg) → i < length scope → s ≡ get_or scope i s → ((rest : List Seg) → number_of (take i scope ++ s ∷ rest) t.paths ≡ None)
      → greatest (is_shown_below any t scope segments) (length scope) ≡ greatest (is_shown_below any t scope segments) i
  ends_here i s lt at none = greatest_ends (is_shown_below any t scope segments) i (length scope) (omega (arith, lt)) (λ k more.
      let h = take_past scope i k s lt at more in
      nothing (take k scope ++ segments) (ap (λ (p : List Seg). number_of (p ++ segments) t.paths) h.1 ∙ ap (λ (p : List Seg). number_of p t.paths) (append_assoc (take i scope) (s ∷ h.0) segments) ∙ none (h.0 ++ segments)))

some_either : {A : Type 0} (a b : Option A) → (is_some b || (true && is_some a)) ≡ is_some (or_else a b)
some_either None b = or_no (is_some b)
some_either (Some x) None = refl
some_either (Some x) (Some y) = refl

module _ (t : Counted) (entries : List Entry) (holds : Holds t entries) (scope segments : List Seg) where
  pub told : (n : ℕ) → greatest (is_shown_below false t scope segments) n ≡ greatest (is_told_below (arities_of t.paths entries) scope segments) n
  told = greatest_same (is_shown_below false t scope segments) (is_told_below (arities_of t.paths entries) scope segments) (λ k.
      or_no (is_some (shown t (take k scope ++ segments) true)) ∙ ap is_some (holds.latest (take k scope ++ segments) true))

  pub known_any : (n : ℕ) → greatest (is_shown_below true t scope segments) n ≡ greatest (is_known_below (arities_of t.paths entries) scope segments) n
  unfolding arity_at
  known_any = greatest_same (is_shown_below true t scope segments) (is_known_below (arities_of t.paths entries) scope segments) (λ k. at (take k scope ++ segments))
    where
      at : (p : List Seg) → is_shown true t p ≡ is_some (arity_at (arities_of t.paths entries) p)
      at p = some_either (shown t p false) (shown t p true) ∙ rw (holds.latest p false, holds.latest p true) refl
