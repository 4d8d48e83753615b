use Rattle.std.proofs.Common.{◌≡◌, ℕ, zero, suc, ◌+◌, ◌<◌, ◌≤◌, Bool, true, false, List, [], ◌∷◌, ◌++◌, length, map, refl, ◌∙◌, ap, arith, get_or, inl, inr}
use Rattle.std.specs.Prelude.{◌⊎◌, ◌==◌, if◌then◌else◌}
use Rattle.std.proofs.lemmas.Bool.{eqb-true}
use Rattle.std.proofs.lemmas.List.Sums.{sum_by-cons}
use Rattle.route_model.specs.Routing.{greatest, wired_to, given, load, busiest}
use Rattle.route_model.proofs.Hall.{counted_somewhere, zero_or_more}
use Rattle.std.proofs.lemmas.List.{get_or-map, length-map, length-append, get_or_append_left, get_or-append-add}

-- the greatest is not above what none is above
pub greatest-le : (k : ℕ) (xs : List ℕ) → ((i : ℕ) → i < length xs → get_or xs i 0 ≤ k) → greatest xs ≤ k
greatest-le k [] h = omega arith
greatest-le k (x ∷ xs) h =
    let a = h 0 (omega arith) in
    let b = greatest-le k xs (λ i l. h (suc i) (omega arith)) in
    omega arith

-- each number is at most the greatest
pub le-greatest : (xs : List ℕ) (i : ℕ) → get_or xs i 0 ≤ greatest xs
le-greatest [] i = omega arith
le-greatest (x ∷ xs) zero = omega arith
le-greatest (x ∷ xs) (suc i) = let a = le-greatest xs i in omega arith

-- an interrupt with wired sources is in the list
pub wired_somewhere : (wired : List (ℕ × ℕ)) (i : ℕ) → 0 < wired_to wired i → (k : ℕ) × (k < length wired) × ((get_or wired k (0, 0)).0 ≡ i)
wired_somewhere [] i h = absurd (omega arith)
wired_somewhere (w ∷ ws) i h = go (w.0 == i) refl (wired_somewhere ws i)
  where
    go : (b : Bool) → (w.0 == i) ≡ b → (0 < wired_to ws i → (k : ℕ) × (k < length ws) × ((get_or ws k (0, 0)).0 ≡ i)) → (k : ℕ) × (k < suc (length ws)) × ((get_or (w ∷ ws) k (0, 0)).0 ≡ i)
    go true e ih = (0, omega arith, eqb-true w.0 i e)
    go false e ih =
        let a : wired_to (w ∷ ws) i ≡ 0 + wired_to ws i = sum_by-cons (λ (v : ℕ × ℕ). if v.0 == i then v.1 else 0) w ws ∙ ap (λ b. (if b then w.1 else 0) + wired_to ws i) e in
        let r = ih (omega arith) in
        (suc r.0, omega (arith, r.1), r.2)

-- each load is at most the busiest
pub load-le : (wired : List (ℕ × ℕ)) (a : List ℕ) (i : ℕ) → load wired a i ≤ busiest wired a
load-le wired a i = go (zero_or_more (given a i)) (zero_or_more (wired_to wired i))
  where
    all : List ℕ
    all = a ++ map (λ w. w.0) wired

    at : (k : ℕ) → k < length (a ++ map (λ w. w.0) wired) → get_or (a ++ map (λ w. w.0) wired) k 0 ≡ i → load wired a i ≤ busiest wired a
    at k b e =
        let xs = a ++ map (λ (w : ℕ × ℕ). w.0) wired in
        let f = le-greatest (map (load wired a) xs) k in
        let g = get_or-map (load wired a) xs k 0 0 b in
        let h = ap (load wired a) e in
        omega arith

    go : (given a i ≡ 0) ⊎ (0 < given a i) → (wired_to wired i ≡ 0) ⊎ (0 < wired_to wired i) → load wired a i ≤ busiest wired a
    go (inl x) (inl y) = omega arith
    go (inr x) y =
        let w = counted_somewhere (λ n. n == i) 0 a x in
        let ws = map (λ (w : ℕ × ℕ). w.0) wired in
        let l = length-append a ws in
        at w.0 (omega (arith, w.1)) (get_or_append_left a ws 0 w.0 w.1 ∙ eqb-true (get_or a w.0 0) i w.2)
    go (inl x) (inr y) =
        let w = wired_somewhere wired i y in
        let ws = map (λ (w : ℕ × ℕ). w.0) wired in
        let l = length-append a ws in
        let m = length-map wired (λ (w : ℕ × ℕ). w.0) in
        at (length a + w.0) (omega (arith, w.1)) (get_or-append-add a ws w.0 0 ∙ (get_or-map (λ (w : ℕ × ℕ). w.0) wired w.0 (0, 0) 0 w.1 ∙ w.2))

-- the busiest is not above what no load is above
pub busiest-le : (wired : List (ℕ × ℕ)) (a : List ℕ) (k : ℕ) → ((i : ℕ) → load wired a i ≤ k) → busiest wired a ≤ k
busiest-le wired a k h =
    let xs = a ++ map (λ (w : ℕ × ℕ). w.0) wired in
    let l = length-map xs (load wired a) in
    greatest-le k (map (load wired a) xs) (λ i b. let e = get_or-map (load wired a) xs i 0 0 (omega arith) in let f = h (get_or xs i 0) in omega arith)
