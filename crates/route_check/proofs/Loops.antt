-- What a loop over a list has found when it ends.
use Rattle.std.proofs.Common.{◌≡◌, ◌≢◌, ℕ, ◌+◌, ◌<◌, ◌≤◌, Bool, true, false, List, [], ◌∷◌, length, map, refl, sym, ◌∙◌, ap, subst, arith, get_or, take}
use Rattle.std.specs.Prelude.{◌↔◌, IsTrue, Contains, All}
use Rattle.std.proofs.lemmas.Bool.{false≢true, true≢false}
use Rattle.std.proofs.lemmas.List.{take-map, get_or-map, length-map, get_or_default, take_all, take_more, get_or-take, length-take}
use Rattle.std.proofs.lemmas.List.Elements.{All-same, All-get_or, All-more}
use Rattle.std.proofs.lemmas.List.Quantifiers.{all_pairs_push}
use Rattle.route_model.specs.Bound.{IsDistinct}

-- what the answer of a test says
pub yes : {A : Type 0} → A → IsTrue true ↔ A
yes a = (λ _. a, λ _. refl)

pub no : {A : Type 0} → (A → ⊥) → IsTrue false ↔ A
no h = (λ e. absurd (false≢true e), λ a. absurd (h a))

pub shown : {A : Type 0} → (b : Bool) → IsTrue b ↔ A → b ≡ true → A
shown b e t = e.0 t

pub refuted : {A : Type 0} → (b : Bool) → IsTrue b ↔ A → b ≡ false → A → ⊥
refuted b e f a = true≢false (sym (e.1 a) ∙ f)

-- a loop that ends at the first element that fails
pub all_taken : {X : Type 0} (P : X → Type 0) (xs : List X) (i : ℕ) → length xs ≤ i → All P (take i xs) → All P xs
all_taken P xs i h a = All-same P xs (take i xs) (sym (take_all i xs h)) a

pub all_done : {X : Type 0} (P : X → Type 0) (xs : List X) (i : ℕ) → length xs ≤ i → All P (take i xs) → IsTrue true ↔ All P xs
all_done P xs i h a = yes (all_taken P xs i h a)

pub all_failed : {X : Type 0} (P : X → Type 0) (xs : List X) (i : ℕ) (d : X) → i < length xs → (P (get_or xs i d) → ⊥) → IsTrue false ↔ All P xs
all_failed P xs i d h n = no (λ a. n (All-get_or P xs i d h a))

-- the same by the element that was read
pub all_more : {X : Type 0} (P : X → Type 0) (xs : List X) (i : ℕ) (x : X) → i < length xs → x ≡ get_or xs i x → All P (take i xs) → P x → All P (take (i + 1) xs)
all_more P xs i x h is a p = All-more P xs i x h a (subst P is p)

pub all_failed_at : {X : Type 0} (P : X → Type 0) (xs : List X) (i : ℕ) (x : X) → i < length xs → x ≡ get_or xs i x → (P x → ⊥) → IsTrue false ↔ All P xs
all_failed_at P xs i x h is n = all_failed P xs i x h (λ p. n (subst P (sym is) p))

-- a loop that ends at the first element with a key
pub found_at : {X K : Type 0} (f : X → K) (xs : List X) (i : ℕ) (d : X) (k : K) → i < length xs → f (get_or xs i d) ≡ k → Contains (map f xs) k
found_at f xs i d k h e = let l = length-map xs f in (i, omega arith, get_or-map f xs i d k h ∙ e)

pub none_found : {X K : Type 0} (f : X → K) (xs : List X) (k : K) → All (λ x. f x ≢ k) xs → Contains (map f xs) k → ⊥
none_found f [] k h c = absurd (let b = c.1 in omega arith)
none_found f (x ∷ xs) k h c =
    let l = length-map xs f in
    let b = c.1 in
    h c.0 x (omega arith) (sym (get_or-map f (x ∷ xs) c.0 x k (omega arith)) ∙ c.2)

-- a loop that ends at the first element that stands before
pub distinct_more : {K : Type 0} (xs : List K) (i : ℕ) (d : K) → i < length xs → IsDistinct (take i xs) → (Contains (take i xs) (get_or xs i d) → ⊥) → IsDistinct (take (i + 1) xs)
distinct_more {K} xs i d h distinct fresh =
    let P : List K → Type 0 = λ ys. IsDistinct ys in
    subst P (sym (take_more xs i d h)) (all_pairs_push (λ x y. x ≢ y) (take i xs) (get_or xs i d) distinct (λ k e b same. fresh (k, b, get_or_default (take i xs) k (get_or xs i d) e b ∙ same)))

pub distinct_failed : {K : Type 0} (xs : List K) (i : ℕ) (d : K) → i < length xs → Contains (take i xs) (get_or xs i d) → IsDistinct xs → ⊥
distinct_failed xs i d h c distinct =
    let l = length-take i xs in
    let b = c.1 in
    let x = get_or xs i d in
    distinct c.0 i x (omega arith) h (sym (get_or-take i xs c.0 x (omega arith)) ∙ (c.2 ∙ get_or_default xs i d x h))

-- the same over the keys of some elements, by the element that was read
pub distinct_keys_more : {X K : Type 0} (f : X → K) (xs : List X) (i : ℕ) (x : X) → i < length xs → x ≡ get_or xs i x → IsDistinct (map f (take i xs)) → (Contains (map f (take i xs)) (f x) → ⊥) → IsDistinct (map f (take (i + 1) xs))
distinct_keys_more {X} {K} f xs i x h is distinct fresh =
    let l = length-map xs f in
    let P : List K → Type 0 = λ ys. IsDistinct ys in
    let k = f x in
    let e : get_or (map f xs) i k ≡ k = get_or-map f xs i x k h ∙ ap f (sym is) in
    subst P (take-map f (i + 1) xs) (distinct_more (map f xs) i k (omega arith) (subst P (sym (take-map f i xs)) distinct)
    (λ c. let Q : List K → Type 0 = λ ys. Contains ys k in let R : K → Type 0 = λ y. Contains (take i (map f xs)) y in fresh (subst Q (take-map f i xs) (subst R e c))))

pub distinct_keys_failed : {X K : Type 0} (f : X → K) (xs : List X) (i : ℕ) (x : X) → i < length xs → x ≡ get_or xs i x → Contains (map f (take i xs)) (f x) → IsDistinct (map f xs) → ⊥
distinct_keys_failed {X} {K} f xs i x h is c distinct =
    let l = length-map xs f in
    let k = f x in
    let e : get_or (map f xs) i k ≡ k = get_or-map f xs i x k h ∙ ap f (sym is) in
    let Q : List K → Type 0 = λ ys. Contains ys k in
    let R : K → Type 0 = λ y. Contains (take i (map f xs)) y in
    distinct_failed (map f xs) i k (omega arith) (subst R (sym e) (subst Q (sym (take-map f i xs)) c)) distinct

pub distinct_keys_done : {X K : Type 0} (f : X → K) (xs : List X) (i : ℕ) → length xs ≤ i → IsDistinct (map f (take i xs)) → IsTrue true ↔ IsDistinct (map f xs)
distinct_keys_done {X} f xs i h d = let P : List X → Type 0 = λ ys. IsDistinct (map f ys) in yes (subst P (take_all i xs h) d)

-- the same by the element that was read
pub found_at_element : {X K : Type 0} (f : X → K) (xs : List X) (i : ℕ) (x : X) (k : K) → i < length xs → x ≡ get_or xs i x → f x ≡ k → Contains (map f xs) k
found_at_element f xs i x k h is e = found_at f xs i x k h (ap f (sym is) ∙ e)
