-- What a list has, and what is left of it by a test.
use Rattle.std.proofs.Common.{◌≡◌, ℕ, zero, suc, Bool, true, false, cond, List, [], ◌∷◌, refl, sym, ◌∙◌, ap, arith, inl, inr}
use Rattle.std.specs.Prelude.{◌⊎◌, ◌==◌, ◌||◌, Contains, filter}
use Rattle.std.specs.List.{list_any}
use Rattle.std.proofs.lemmas.List.Elements.{filter_passes, All-contains}
use Rattle.std.proofs.lemmas.Bool.{false≢true, eqb-true, eq-eqb}

pub here : {X : Type 0} (x y : X) (ys : List X) → y ≡ x → Contains (y ∷ ys) x
here x y ys e = (0, omega arith, e)

pub there : {X : Type 0} (x y : X) (ys : List X) → Contains ys x → Contains (y ∷ ys) x
there x y ys c = (suc c.0, omega (arith, c.1), c.2)

pub cons_cases : {X : Type 0} (x y : X) (ys : List X) → Contains (y ∷ ys) x → (y ≡ x) ⊎ Contains ys x
cons_cases x y ys (zero, b, e) = inl e
cons_cases x y ys (suc k, b, e) = inr (k, omega arith, e)

pub in_filter : {X : Type 0} (p : X → Bool) (xs : List X) (x : X) → Contains xs x → p x ≡ true → Contains (filter p xs) x
in_filter p [] x c t = absurd (let b = c.1 in omega arith)
in_filter p (y ∷ ys) x c t = go (p y) refl (cons_cases x y ys c) (λ d. in_filter p ys x d t)
  where
    go : (b : Bool) → p y ≡ b → (y ≡ x) ⊎ Contains ys x → (Contains ys x → Contains (filter p ys) x) → Contains (cond b (y ∷ filter p ys) (filter p ys)) x
    go true e (inl same) ih = here x y (filter p ys) same
    go true e (inr c) ih = there x y (filter p ys) (ih c)
    go false e (inl same) ih = absurd (false≢true (sym e ∙ (ap p same ∙ t)))
    go false e (inr c) ih = ih c

pub from_filter : {X : Type 0} (p : X → Bool) (xs : List X) (x : X) → Contains (filter p xs) x → Contains xs x
from_filter p [] x c = c
from_filter p (y ∷ ys) x c = go (p y) (λ d. from_filter p ys x d) c
  where
    go : (b : Bool) → (Contains (filter p ys) x → Contains ys x) → Contains (cond b (y ∷ filter p ys) (filter p ys)) x → Contains (y ∷ ys) x
    go true ih c = step (cons_cases x y (filter p ys) c)
      where
        step : (y ≡ x) ⊎ Contains (filter p ys) x → Contains (y ∷ ys) x
        step (inl e) = here x y ys e
        step (inr d) = there x y ys (ih d)
    go false ih c = there x y ys (ih c)

pub passes : {X : Type 0} (p : X → Bool) (xs : List X) (x : X) → Contains (filter p xs) x → p x ≡ true
passes p xs x c = All-contains (λ y. p y ≡ true) (filter p xs) x (filter_passes p xs) c

-- whether a number is among some, as a test
pub any_contains : (n : ℕ) (xs : List ℕ) → list_any (λ m. m == n) xs ≡ true → Contains xs n
any_contains n [] h = absurd (false≢true h)
any_contains n (x ∷ xs) h = go (x == n) refl (any_contains n xs) h
  where
    go : (b : Bool) → (x == n) ≡ b → (list_any (λ m. m == n) xs ≡ true → Contains xs n) → (b || list_any (λ m. m == n) xs) ≡ true → Contains (x ∷ xs) n
    go true e ih h = here n x xs (eqb-true x n e)
    go false e ih h = there n x xs (ih h)

pub contains_any : (n : ℕ) (xs : List ℕ) → Contains xs n → list_any (λ m. m == n) xs ≡ true
contains_any n [] c = absurd (let b = c.1 in omega arith)
contains_any n (x ∷ xs) c = go (cons_cases n x xs c) (contains_any n xs)
  where
    either : (b : Bool) → (b || true) ≡ true
    either true = refl
    either false = refl

    go : (x ≡ n) ⊎ Contains xs n → (Contains xs n → list_any (λ m. m == n) xs ≡ true) → ((x == n) || list_any (λ m. m == n) xs) ≡ true
    go (inl e) ih = ap (λ b. b || list_any (λ m. m == n) xs) (eq-eqb x n e)
    go (inr c) ih = ap (λ b. (x == n) || b) (ih c) ∙ either (x == n)
