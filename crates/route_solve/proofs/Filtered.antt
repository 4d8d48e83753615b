use Rattle.std.proofs.Common.{◌≡◌, ℕ, zero, suc, ◌+◌, ◌<◌, ◌≤◌, Bool, true, false, cond, List, [], ◌∷◌, ◌++◌, length, refl, drop, drop-cons, add-one, ◌∙◌, ap, subst, arith, get_or, inl, inr}
use Rattle.std.specs.Prelude.{◌⊎◌, ◌==◌, ◌&&◌, ◌||◌, Contains, filter}
use Rattle.std.specs.List.{list_any, range_with_len}
use Rattle.std.specs.List.Sorted.{IsStrictlyIncreasing}
use Rattle.std.proofs.lemmas.List.Elements.{Contains-append_left, Contains-append_right}
use Rattle.std.proofs.lemmas.List.FromFn.{length-range_with_len, get_or-range_with_len}
use Rattle.std.proofs.lemmas.Bool.{false≢true, cases_lt}
use Rattle.route_model.specs.Placement.{is_reached, Offers}
use Rattle.route_solve.specs.Marks.{places_from, is_offered_by}
pub use Rattle.route_model.proofs.Filtered.{here, there, cons_cases, in_filter, from_filter, passes, any_contains, contains_any}

-- the marked ones of 0, 1, 2 and so on
pub places_are : (p : ℕ → Bool) (i : ℕ) (bs : List Bool) → ((m : ℕ) → p (i + m) ≡ is_reached bs m) → filter p (range_with_len i (length bs)) ≡ places_from i bs
places_are p i [] h = refl
places_are p i (b ∷ bs) h =
    let e : p i ≡ b = subst (λ n. p n ≡ b) (let z : i + 0 ≡ i = omega arith in z) (h 0) in
    let next : (m : ℕ) → p (i + 1 + m) ≡ is_reached bs m = λ m. subst (λ n. p n ≡ is_reached bs m) (let z : i + suc m ≡ i + 1 + m = omega arith in z) (h (suc m)) in
    rw e (go b (places_are p (i + 1) bs next))
  where
    go : (b : Bool) → filter p (range_with_len (i + 1) (length bs)) ≡ places_from (i + 1) bs → cond b (i ∷ filter p (range_with_len (i + 1) (length bs))) (filter p (range_with_len (i + 1) (length bs))) ≡ cond b (i ∷ places_from (i + 1) bs) (places_from (i + 1) bs)
    go true ih = ap (λ xs. i ∷ xs) ih
    go false ih = ih

pub range_ascends : (n : ℕ) → IsStrictlyIncreasing (range_with_len 0 n)
range_ascends n k h =
    let l = length-range_with_len 0 n in
    let a = get_or-range_with_len 0 n k 0 (omega arith) in
    let b = get_or-range_with_len 0 n (k + 1) 0 (omega arith) in
    omega arith

-- whether a marked link offers an interrupt
pub offered_from : (offers : List (List ℕ)) (marks : List Bool) (n : ℕ) → is_offered_by offers marks n ≡ true → (l : ℕ) × (is_reached marks l ≡ true) × Offers offers l n
offered_from [] bs n h = absurd (false≢true h)
offered_from (o ∷ os) [] n h = absurd (false≢true h)
offered_from (o ∷ os) (b ∷ bs) n h = go b (list_any (λ m. m == n) o) refl (offered_from os bs n) h
  where
    rest : (l : ℕ) × (is_reached bs l ≡ true) × Offers os l n → (b : Bool) → (l : ℕ) × (is_reached (b ∷ bs) l ≡ true) × Offers (o ∷ os) l n
    rest w b = (suc w.0, w.1, w.2)

    go : (b any : Bool) → list_any (λ m. m == n) o ≡ any → (is_offered_by os bs n ≡ true → (l : ℕ) × (is_reached bs l ≡ true) × Offers os l n) → ((b && any) || is_offered_by os bs n) ≡ true → (l : ℕ) × (is_reached (b ∷ bs) l ≡ true) × Offers (o ∷ os) l n
    go true true e ih h = (0, refl, any_contains n o e)
    go true false e ih h = rest (ih h) true
    go false any e ih h = rest (ih h) false

pub offered_to : (offers : List (List ℕ)) (marks : List Bool) (n l : ℕ) → is_reached marks l ≡ true → Offers offers l n → is_offered_by offers marks n ≡ true
offered_to [] bs n l r c = absurd (let b = c.1 in omega arith)
offered_to (o ∷ os) [] n l r c = absurd (false≢true r)
offered_to (o ∷ os) (true ∷ bs) n zero r c = ap (λ b. b || is_offered_by os bs n) (contains_any n o c)
offered_to (o ∷ os) (false ∷ bs) n zero r c = absurd (false≢true r)
offered_to (o ∷ os) (b ∷ bs) n (suc l) r c = ap (λ x. (b && list_any (λ m. m == n) o) || x) (offered_to os bs n l r c) ∙ either (b && list_any (λ m. m == n) o)
  where
    either : (b : Bool) → (b || true) ≡ true
    either true = refl
    either false = refl

pub offered_step : (offers : List (List ℕ)) (marks : List Bool) (n l : ℕ) → l < length offers → l < length marks → is_offered_by (drop l offers) (drop l marks) n ≡ ((is_reached marks l && list_any (λ m. m == n) (get_or offers l [])) || is_offered_by (drop (l + 1) offers) (drop (l + 1) marks) n)
offered_step offers marks n l h k = rw (add-one, drop-cons offers l [], drop-cons marks l false)

pub either_true : (b : Bool) → (b || true) ≡ true
either_true true = refl
either_true false = refl

-- what one more link offers is added
pub offered_more : (offers : List (List ℕ)) (i : ℕ) (old new more : List ℕ) → new ≡ old ++ more → get_or offers i [] ≡ more → ((k n : ℕ) → k < i → Offers offers k n → Contains old n) → (k n : ℕ) → k < i + 1 → Offers offers k n → Contains new n
offered_more offers i old new more e f h k n b o = rw e (go (cases_lt k i))
  where
    go : (k < i) ⊎ (i ≤ k) → Contains (old ++ more) n
    go (inl below) = Contains-append_left old more n (h k n below o)
    go (inr at) =
        let same : k ≡ i = omega arith in
        Contains-append_right old more n (subst (λ (xs : List ℕ). Contains xs n) (ap (λ j. get_or offers j []) same ∙ f) o)
