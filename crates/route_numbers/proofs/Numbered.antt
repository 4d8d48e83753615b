-- The offered interrupts and their places.
use Rattle.std.proofs.Common.{◌≡◌, ℕ, zero, suc, ◌+◌, ◌<◌, ◌≤◌, Bool, true, false, List, [], ◌∷◌, ◌++◌, length, refl, sym, ◌∙◌, ap, subst, arith, get_or, inl, inr}
use Rattle.std.specs.Prelude.{◌⊎◌, ◌||◌, Contains}
use Rattle.std.specs.List.Sorted.{IsStrictlyIncreasing}
use Rattle.std.proofs.lemmas.Bool.{false≢true, cases_order, cases_lt}
use Rattle.std.proofs.lemmas.List.{get_or_default, get_or_past}
use Rattle.std.proofs.lemmas.List.Kept.{AllPairs-from_increasing}
use Rattle.route_model.specs.Placement.{Offers}
use Rattle.route_model.proofs.Filtered.{any_contains, contains_any}
use Rattle.route_numbers.specs.Numbers.{has, is_offered, lists_of, number_at}
use Rattle.std.proofs.Math.ListN as list_n
use Rattle.std.proofs.lemmas.List.Elements.{Contains-get_or}
use Rattle.std.proofs.Common.{map}
use Rattle.std.specs.Global.{Vec}
use Rattle.std.proofs.lemmas.List.{length-map, get_or-map, map-append}

either_true : (b : Bool) → (b || true) ≡ true
either_true true = refl
either_true false = refl

pub offered_to_any : (offers : List (List ℕ)) (k n : ℕ) → Offers offers k n → is_offered offers n ≡ true
offered_to_any [] k n c = absurd (let b = c.1 in omega arith)
offered_to_any (o ∷ os) zero n c = ap (λ b. b || is_offered os n) (contains_any n o c)
offered_to_any (o ∷ os) (suc k) n c = ap (λ b. has o n || b) (offered_to_any os k n c) ∙ either_true (has o n)

pub offered_from_any : (offers : List (List ℕ)) (n : ℕ) → is_offered offers n ≡ true → (k : ℕ) × Offers offers k n
offered_from_any [] n h = absurd (false≢true h)
offered_from_any (o ∷ os) n h = go (has o n) refl (offered_from_any os n) h
  where
    go : (b : Bool) → has o n ≡ b → (is_offered os n ≡ true → (k : ℕ) × Offers os k n) → (b || is_offered os n) ≡ true → (k : ℕ) × Offers (o ∷ os) k n
    go true e ih h = (0, any_contains n o e)
    go false e ih h = let w = ih h in (suc w.0, w.1)

-- what stands before a place is smaller, and what stands after it greater
pub earlier_less : (xs : List ℕ) → IsStrictlyIncreasing xs → (i n : ℕ) → i < length xs → get_or xs i 0 < n → (k : ℕ) → k < i + 1 → get_or xs k 0 < n
earlier_less xs up i n b less k lt = go (cases_order k i)
  where
    go : (k ≡ i) ⊎ ((k < i) ⊎ (i < k)) → get_or xs k 0 < n
    go (inl e) = rw e less
    go (inr (inl before)) = let f = AllPairs-from_increasing xs up k i 0 before b in omega arith
    go (inr (inr after)) = absurd (omega arith)

pub later_more : (xs : List ℕ) → IsStrictlyIncreasing xs → (i n : ℕ) → n < get_or xs i 0 → (k : ℕ) → i ≤ k → k < length xs → n < get_or xs k 0
later_more xs up i n more k le b = go (cases_order k i)
  where
    go : (k ≡ i) ⊎ ((k < i) ⊎ (i < k)) → n < get_or xs k 0
    go (inl e) = rw e more
    go (inr (inl before)) = absurd (omega arith)
    go (inr (inr after)) = let f = AllPairs-from_increasing xs up i k 0 after b in omega arith

pub not_there : (xs : List ℕ) (n m : ℕ) → ((k : ℕ) → k < m → get_or xs k 0 < n) → ((k : ℕ) → m ≤ k → k < length xs → n < get_or xs k 0) → Contains xs n → ⊥
not_there xs n m below above c = go (cases_order c.0 m)
  where
    is : get_or xs c.0 0 ≡ n
    is = get_or_default xs c.0 0 n c.1 ∙ c.2

    go : (c.0 ≡ m) ⊎ ((c.0 < m) ⊎ (m < c.0)) → ⊥
    go (inl e) = let f = above c.0 (omega arith) c.1 in let g = is in omega arith
    go (inr (inl less)) = let f = below c.0 less in let g = is in omega arith
    go (inr (inr more)) = let f = above c.0 (omega arith) c.1 in let g = is in omega arith

-- lists in memory, as lists
pub lists_length : (vs : List (Vec ℕ)) → length (lists_of vs) ≡ length vs
lists_length vs = length-map vs (λ (v : Vec ℕ). v.items)

pub lists_at : (vs : List (Vec ℕ)) (k : ℕ) (x : Vec ℕ) → k < length vs → x ≡ get_or vs k x → get_or (lists_of vs) k [] ≡ x.items
lists_at vs k x b is = get_or-map (λ (v : Vec ℕ). v.items) vs k x [] b ∙ ap (λ (v : Vec ℕ). v.items) (sym is)

pub lists_push : (vs : List (Vec ℕ)) (v : Vec ℕ) → lists_of (vs ++ v ∷ []) ≡ lists_of vs ++ v.items ∷ []
lists_push vs v = map-append (λ (v : Vec ℕ). v.items) vs (v ∷ [])

pub offers_push : (old : List (List ℕ)) (v : List ℕ) (k i : ℕ) → Offers (old ++ v ∷ []) k i → Offers old k i ⊎ Contains v i
offers_push [] v zero i c = inr c
offers_push [] v (suc k) i c = absurd (let b = c.1 in omega arith)
offers_push (o ∷ os) v zero i c = inl c
offers_push (o ∷ os) v (suc k) i c = offers_push os v k i c

-- places and numbers
pub map_to : (f : ℕ → ℕ) (xs : List ℕ) (i : ℕ) → Contains xs i → Contains (map f xs) (f i)
map_to f xs i c = let long = length-map xs f in (c.0, omega (arith, c.1), get_or-map f xs c.0 i (f i) c.1 ∙ ap f c.2)

pub map_from : (f : ℕ → ℕ) (xs : List ℕ) (n : ℕ) → Contains (map f xs) n → (i : ℕ) × Contains xs i × (f i ≡ n)
map_from f xs n c = let long = length-map xs f in let b : c.0 < length xs = let d = c.1 in omega arith in (get_or xs c.0 0, Contains-get_or xs c.0 0 b, sym (get_or-map f xs c.0 0 n b) ∙ c.2)

lists_map : (f : ℕ → ℕ) (places : List (List ℕ)) (l : ℕ) → get_or (map (map f) places) l [] ≡ map f (get_or places l [])
lists_map f places l = list_n.get_or-map (map f) places l []

pub offers_named : (f : ℕ → ℕ) (places : List (List ℕ)) (l i : ℕ) → Offers places l i → Offers (map (map f) places) l (f i)
offers_named f places l i o = subst (λ (xs : List ℕ). Contains xs (f i)) (sym (lists_map f places l)) (map_to f (get_or places l []) i o)

pub offers_unnamed : (f : ℕ → ℕ) (places : List (List ℕ)) (l n : ℕ) → Offers (map (map f) places) l n → (i : ℕ) × Offers places l i × (f i ≡ n)
offers_unnamed f places l n o = map_from f (get_or places l []) n (subst (λ (xs : List ℕ). Contains xs n) (lists_map f places l) o)

pub one_place : (numbers : List ℕ) → IsStrictlyIncreasing numbers → (i j : ℕ) → i < length numbers → j < length numbers → number_at numbers i ≡ number_at numbers j → i ≡ j
one_place numbers up i j bi bj e = go (cases_order i j)
  where
    go : (i ≡ j) ⊎ ((i < j) ⊎ (j < i)) → i ≡ j
    go (inl f) = f
    go (inr (inl less)) = let f = AllPairs-from_increasing numbers up i j 0 less bj in absurd (omega arith)
    go (inr (inr more)) = let f = AllPairs-from_increasing numbers up j i 0 more bi in absurd (omega arith)

-- only links offer
pub offers_within : (offers : List (List ℕ)) (k n : ℕ) → Offers offers k n → k < length offers
offers_within offers k n o = go (cases_lt k (length offers))
  where
    go : (k < length offers) ⊎ (length offers ≤ k) → k < length offers
    go (inl b) = b
    go (inr past) = absurd (let c : Contains [] n = subst (λ (xs : List ℕ). Contains xs n) (get_or_past offers k [] past) o in let b = c.1 in omega arith)
