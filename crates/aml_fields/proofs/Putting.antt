-- Bits put in place of others, one by one.
use Rattle.std.proofs.Common.{◌≡◌, ℕ, zero, suc, ◌+◌, ◌-◌, ◌<◌, Bool, false, List, [], ◌∷◌, ◌++◌, length, take, drop, replicate, get_or, set, refl, ap, sym, ◌∙◌, arith, length-append, drop-cons}
use Rattle.std.proofs.lemmas.List.{set-append_right, append_assoc, take-append-drop, length-take-le, append-nil}
use Rattle.aml_fields.specs.Bits.{extended, put}

zeros_more : (n : ℕ) → replicate (suc n) false ≡ replicate n false ++ false ∷ []
zeros_more zero = refl
zeros_more (suc n) = ap (λ l. false ∷ l) (zeros_more n)

less_both : (n m : ℕ) → suc n - suc m ≡ n - m
less_both n m = omega arith

take_none : (n : ℕ) → take {A = Bool} n [] ≡ []
take_none zero = refl
take_none (suc n) = refl

pub extended_more : (n : ℕ) (xs : List Bool) → extended (suc n) xs ≡ extended n xs ++ get_or xs n false ∷ []
extended_more n [] = let e : suc n - 0 ≡ suc n = omega arith in let f : n - 0 ≡ n = omega arith in rw (e, f, take_none n) (zeros_more n)
extended_more zero (x ∷ xs) = let e : 1 - suc (length xs) ≡ 0 = omega arith in let f : 0 - suc (length xs) ≡ 0 = omega arith in rw (e, f) refl
extended_more (suc n) (x ∷ xs) = rw (less_both (suc n) (length xs), less_both n (length xs)) (ap (λ l. x ∷ l) (extended_more n xs))

pub extended_none : (xs : List Bool) → extended 0 xs ≡ []
extended_none xs = let e : 0 - length xs ≡ 0 = omega arith in rw e refl

pub length_extended : (n : ℕ) (xs : List Bool) → length (extended n xs) ≡ n
length_extended zero xs = ap length (extended_none xs)
length_extended (suc n) xs = ap length (extended_more n xs) ∙ length-append (extended n xs) (get_or xs n false ∷ []) ∙ (let h = length_extended n xs in omega (arith, h))

append_more : (xs ys : List Bool) (v : Bool) (zs : List Bool) → xs ++ ys ++ (v ∷ zs) ≡ xs ++ (ys ++ v ∷ []) ++ zs
append_more xs ys v zs = ap (λ l. xs ++ ys ++ l) refl ∙ sym (append_assoc (xs ++ ys) (v ∷ []) zs) ∙ ap (λ l. l ++ zs) (append_assoc xs ys (v ∷ []))

-- one more
set_put : (to : ℕ) (new old : List Bool) (n : ℕ) (v : Bool) → length new ≡ n → to + n < length old → set (put to new old) (to + n) v ≡ put to (new ++ v ∷ []) old
set_put to new old n v e l =
    let front : length (take to old ++ new) ≡ to + n = length-append (take to old) new ∙ ap (λ x. x + length new) (length-take-le to old (omega arith)) ∙ ap (λ x. to + x) e in
    let next : to + length (new ++ v ∷ []) ≡ suc (to + length new) = let h = length-append new (v ∷ []) in omega (arith, h) in
    let place : to + length new ≡ to + n = ap (λ x. to + x) e in
    set-append_right (take to old ++ new) (drop (to + length new) old) (to + n) (to + n) v front (omega arith)
    ∙ ap (λ i. (take to old ++ new) ++ set (drop (to + length new) old) i v) (omega arith)
    ∙ ap (λ l. (take to old ++ new) ++ set l 0 v) (drop-cons old (to + length new) false (omega (arith, place)))
    ∙ append_more (take to old) new v (drop (suc (to + length new)) old)
    ∙ ap (λ i. take to old ++ (new ++ v ∷ []) ++ drop i old) (sym next)

nothing_put : (to : ℕ) (old : List Bool) → put to [] old ≡ old
nothing_put to old = let e : to + 0 ≡ to = omega arith in rw e (ap (λ l. l ++ drop to old) (append-nil (take to old)) ∙ take-append-drop to old)

pub put_none : (to : ℕ) (xs old : List Bool) → old ≡ put to (extended 0 xs) old
put_none to xs old = sym (ap (λ new. put to new old) (extended_none xs) ∙ nothing_put to old)

pub put_more : (to n : ℕ) (xs old : List Bool) (v : Bool) → to + n < length old → get_or xs n false ≡ v → set (put to (extended n xs) old) (to + n) v ≡ put to (extended (n + 1) xs) old
put_more to n xs old v l e =
    let next : suc n ≡ n + 1 = omega arith in
    set_put to (extended n xs) old n v (length_extended n xs) l
    ∙ ap (λ new. put to new old) (ap (λ x. extended n xs ++ x ∷ []) (sym e) ∙ sym (extended_more n xs) ∙ ap (λ k. extended k xs) next)
