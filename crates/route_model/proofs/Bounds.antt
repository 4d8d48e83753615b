use Rattle.std.proofs.Common.{◌≡◌, ℕ, zero, suc, ◌+◌, ◌-◌, ◌*◌, ◌<◌, ◌≤◌, Bool, true, false, cond, List, [], ◌∷◌, length, refl, sym, ◌∙◌, ap, arith, get_or, inl, inr}
use Rattle.std.specs.Prelude.{count_by, sum_by, ◌⊎◌, ◌==◌, Contains}
use Rattle.std.proofs.Math.Nat.{mul-le-mul_left, mul_comm}
use Rattle.std.proofs.lemmas.Bool.{cases_lt, false≢true, eqb-true, eq-eqb}
use Rattle.std.proofs.lemmas.List.{get_or_default}
use Rattle.std.proofs.lemmas.List.Sums.{sum_by-cons, sum_by-le}
use Rattle.route_model.specs.Routing.{given, wired_to, load, busiest, IsAssignment}
use Rattle.route_model.specs.Bound.{IsDistinct, IsLowerBoundByName}
use Rattle.route_model.proofs.Counting.{one_if, count_cons, count_yes, count_no, Tells, fewer}
use Rattle.route_model.proofs.Hall.{count_pointwise, zero_or_more, counted_somewhere}
use Rattle.route_model.proofs.Loads.{load-le}
use Rattle.route_model.proofs.Assignments.{length_assignment, assignment_at}

module _ {X : Type 0} (same : X → X → Bool) (tells : Tells same) where
  -- whether an element is among some
  abbrev pub among : List X → X → Bool
  among [] x = false
  among (y ∷ ys) x = cond (same y x) true (among ys x)

  pub among_contains : (ys : List X) (x : X) → among ys x ≡ true → Contains ys x
  among_contains [] x h = absurd (false≢true h)
  among_contains (y ∷ ys) x h = go (same y x) refl h (among_contains ys x)
    where
      go : (b : Bool) → same y x ≡ b → cond b true (among ys x) ≡ true → (among ys x ≡ true → Contains ys x) → Contains (y ∷ ys) x
      go true e h ih = (0, omega arith, tells.sound y x e)
      go false e h ih = let w = ih h in (suc w.0, omega (arith, w.1), w.2)

  pub contains_among : (ys : List X) (k : ℕ) (x : X) → k < length ys → get_or ys k x ≡ x → among ys x ≡ true
  contains_among [] k x b e = absurd (omega arith)
  contains_among (y ∷ ys) zero x b e = rw e (ap (λ t. cond t true (among ys x)) (tells.itself x))
  contains_among (y ∷ ys) (suc k) x b e = go (same y x) (contains_among ys k x (omega arith) e)
    where
      go : (t : Bool) → among ys x ≡ true → cond t true (among ys x) ≡ true
      go true h = refl
      go false h = h

  count_none : (x : X) (xs : List X) → ((k : ℕ) → k < length xs → same x (get_or xs k x) ≡ true → ⊥) → count_by (same x) xs ≡ 0
  count_none x xs h = go (zero_or_more (count_by (same x) xs))
    where
      go : (count_by (same x) xs ≡ 0) ⊎ (0 < count_by (same x) xs) → count_by (same x) xs ≡ 0
      go (inl e) = e
      go (inr more) = let w = counted_somewhere (same x) x xs more in absurd (h w.0 w.1 w.2)

  -- among distinct elements each is at most once
  pub count_once : (x : X) (xs : List X) → IsDistinct xs → count_by (same x) xs ≤ 1
  count_once x [] h = omega arith
  count_once x (y ∷ ys) h = go (same x y) refl (count_once x ys (λ i j d lt b. h (suc i) (suc j) d (omega arith) (omega arith)))
    where
      go : (b : Bool) → same x y ≡ b → count_by (same x) ys ≤ 1 → count_by (same x) (y ∷ ys) ≤ 1
      go true e ih =
          let xy = tells.sound x y e in
          let none = count_none x ys (λ k b s. h 0 (suc k) x (omega arith) (omega arith) (sym xy ∙ tells.sound x (get_or ys k x) s)) in
          omega (arith, count_yes (same x) y ys e)
      go false e ih = omega (arith, count_no (same x) y ys e)

  count_all : (p : X → Bool) (xs : List X) → ((k : ℕ) → k < length xs → (d : X) → p (get_or xs k d) ≡ true) → length xs ≤ count_by p xs
  count_all p [] h = omega arith
  count_all p (x ∷ xs) h =
      let a = count_yes p x xs (h 0 (omega arith) x) in
      let b = count_all p xs (λ k l. h (suc k) (omega arith)) in
      omega arith

  -- distinct elements that are all among the names are no more than the names among them
  pub names_among : (xs names : List X) → IsDistinct xs → ((x : X) → Contains xs x → Contains names x) → length xs ≤ count_by (among xs) names
  names_among xs names distinct known =
      let all = count_all (among xs) xs (λ k b d. contains_among xs k (get_or xs k d) b (get_or_default xs k (get_or xs k d) d b)) in
      let less = fewer same tells (among xs) xs names (λ x s.
      let once = count_once x xs distinct in
      let c = known x (among_contains xs x s) in
      let there = some_count x names c.0 c.1 c.2 in
      omega arith) in
      omega arith
    where
      some_count : (x : X) (ys : List X) (k : ℕ) → k < length ys → get_or ys k x ≡ x → 0 < count_by (same x) ys
      some_count x [] k b e = absurd (omega arith)
      some_count x (y ∷ ys) zero b e = omega (arith, count_yes (same x) y ys (rw e (tells.itself x)))
      some_count x (y ∷ ys) (suc k) b e = let h = some_count x ys k (omega arith) e in omega (arith, count_cons (same x) y ys)

pub nat_tells : Tells {X = ℕ} (λ x y. x == y)
nat_tells = record { sound = eqb-true; itself = λ x. eq-eqb x x refl }

-- the links given some interrupts, counted interrupt by interrupt
given_step : (x : ℕ) (b ts : List ℕ) → one_if (among (λ x y. x == y) nat_tells ts x) + sum_by (given b) ts ≤ sum_by (given (x ∷ b)) ts
given_step x b [] = omega arith
given_step x b (t ∷ ts) =
    let s1 = sum_by-cons (given b) t ts in
    let s2 = sum_by-cons (given (x ∷ b)) t ts in
    let g = count_cons (λ n. n == t) x b in
    let ih = given_step x b ts in
    go (t == x) refl s1 s2 g ih
  where
    go : (c : Bool) → (t == x) ≡ c → sum_by (given b) (t ∷ ts) ≡ given b t + sum_by (given b) ts → sum_by (given (x ∷ b)) (t ∷ ts) ≡ given (x ∷ b) t + sum_by (given (x ∷ b)) ts → given (x ∷ b) t ≡ one_if (x == t) + given b t → one_if (among (λ x y. x == y) nat_tells ts x) + sum_by (given b) ts ≤ sum_by (given (x ∷ b)) ts → one_if (cond c true (among (λ x y. x == y) nat_tells ts x)) + sum_by (given b) (t ∷ ts) ≤ sum_by (given (x ∷ b)) (t ∷ ts)
    go true e s1 s2 g ih = let one = ap one_if (eq-eqb x t (sym (eqb-true t x e))) in omega arith
    go false e s1 s2 g ih = omega arith

given_among : (b ts : List ℕ) → count_by (among (λ x y. x == y) nat_tells ts) b ≤ sum_by (given b) ts
given_among [] ts = omega arith
given_among (x ∷ b) ts = let s = given_step x b ts in let ih = given_among b ts in omega (arith, count_cons (among (λ x y. x == y) nat_tells ts) x b)

sum_loads : (wired : List (ℕ × ℕ)) (b ts : List ℕ) → sum_by (load wired b) ts ≡ sum_by (given b) ts + sum_by (wired_to wired) ts
sum_loads wired b [] = omega arith
sum_loads wired b (t ∷ ts) = let ih = sum_loads wired b ts in omega (arith, sum_by-cons (load wired b) t ts, sum_by-cons (given b) t ts, sum_by-cons (wired_to wired) t ts)

-- With such a bound no assignment is less busy than k.
pub bound_least : {X : Type 0} (same : X → X → Bool) → Tells same → (x0 : X) (names : List X) (offers : List (List ℕ)) (wired : List (ℕ × ℕ)) (links : List X) (interrupts : List ℕ) (k : ℕ) → length names ≡ length offers → IsLowerBoundByName names offers wired k links interrupts → (b : List ℕ) → IsAssignment offers b → k ≤ busiest wired b
bound_least same tells x0 names offers wired links interrupts k long bound b assigned =
    let named = names_among same tells links names bound.distinct_links bound.known in
    let lb = length_assignment offers b assigned in
    let inside : count_by (among same tells links) names ≤ count_by (among (λ x y. x == y) nat_tells interrupts) b =
    count_pointwise (among same tells links) (among (λ x y. x == y) nat_tells interrupts) x0 0 names b (omega arith) (λ l bl s.
    let c = among_contains same tells links (get_or names l x0) s in
    let d = bound.inside l (get_or b l 0) (get_or names l x0) c bl x0 refl (assignment_at offers b l assigned (omega arith)) in
    contains_among (λ x y. x == y) nat_tells interrupts d.0 (get_or b l 0) d.1 d.2) in
    let counted = given_among b interrupts in
    let loads = sum_loads wired b interrupts in
    let most = sum_by-le (load wired b) (busiest wired b) interrupts (λ i d l. load-le wired b (get_or interrupts i d)) in
    go (cases_lt (busiest wired b) k) bound.crowded (omega arith)
  where
    go : (busiest wired b < k) ⊎ (k ≤ busiest wired b) → (k - 1) * length interrupts < length links + sum_by (wired_to wired) interrupts → length links + sum_by (wired_to wired) interrupts ≤ length interrupts * busiest wired b → k ≤ busiest wired b
    go (inr above) c m = above
    go (inl below) c m =
        let h : busiest wired b ≤ k - 1 = omega arith in
        let p = mul-le-mul_left (length interrupts) h in
        let q = mul_comm (length interrupts) (k - 1) in
        absurd (omega arith)
