use Rattle.std.proofs.Common.{◌≡◌, ℕ, zero, suc, ◌+◌, ◌-◌, ◌≤◌, Bool, true, false, List, [], ◌∷◌, refl, arith}
use Rattle.std.specs.Prelude.{ltb}
use Rattle.std.proofs.lemmas.Bool.{ltb-true, ltb-false}
use Rattle.std.proofs.lemmas.List.Sums.{sum_by-cons}
use Rattle.route_model.specs.Routing.{load, IsAssignment}
use Rattle.route_spread.specs.Sharing.{excess, IsLeastShared, busier, NotBusier, HasOffered}
use Rattle.route_model.proofs.Counting.{one_if, count_cons}

one_level : (k x : ℕ) → x - k ≡ (x - (k + 1)) + one_if (ltb k x)
one_level k x = go (ltb k x) refl
  where
    go : (b : Bool) → ltb k x ≡ b → x - k ≡ (x - (k + 1)) + one_if b
    go true e = omega (arith, ltb-true k x e)
    go false e = omega (arith, ltb-false k x e)

pub step : (wired : List (ℕ × ℕ)) (a : List ℕ) (k : ℕ) (ns : List ℕ) → excess wired ns a k ≡ excess wired ns a (k + 1) + busier wired ns a k
step wired a k [] = refl
step wired a k (n ∷ ns) =
    let s1 = sum_by-cons (λ m. load wired a m - k) n ns in
    let s2 = sum_by-cons (λ m. load wired a m - (k + 1)) n ns in
    let c = count_cons (λ m. ltb k (load wired a m)) n ns in
    let o = one_level k (load wired a n) in
    let ih = step wired a k ns in
    omega (arith, s1, s2, c, o, ih)

-- nothing is above all sources together
pub ends : (wired : List (ℕ × ℕ)) (a : List ℕ) (k : ℕ) (ns : List ℕ) → excess wired ns a k ≤ excess wired ns a 0 - k
ends wired a k [] = omega arith
ends wired a k (n ∷ ns) =
    let s1 = sum_by-cons (λ m. load wired a m - k) n ns in
    let s2 = sum_by-cons (λ m. load wired a m - 0) n ns in
    let ih = ends wired a k ns in
    omega (arith, s1, s2, ih)

pub alike : (wired : List (ℕ × ℕ)) (ns a b : List ℕ) (d k : ℕ) → excess wired ns a 0 ≤ d + k → excess wired ns b 0 ≤ d + k → ((m : ℕ) → k ≤ m → busier wired ns a m ≡ busier wired ns b m) → excess wired ns a k ≡ excess wired ns b k
alike wired ns a b zero k x y h = let p = ends wired a k ns in let q = ends wired b k ns in omega (arith, x, y, p, q)
alike wired ns a b (suc d) k x y h =
    let ih = alike wired ns a b d (k + 1) (omega (arith, x)) (omega (arith, y)) (λ m l. h m (omega (arith, l))) in
    let p = step wired a k ns in
    let q = step wired b k ns in
    let e = h k (omega arith) in
    omega (arith, ih, p, q, e)

pub first_sorted : (offers : List (List ℕ)) (wired : List (ℕ × ℕ)) (a : List ℕ) → IsLeastShared offers wired a → (numbers b : List ℕ) → HasOffered offers numbers → IsAssignment offers b → NotBusier wired numbers a b
first_sorted offers wired a shared ns b has assigned k h =
    let d = excess wired ns a 0 + excess wired ns b 0 in
    let same = alike wired ns a b (excess wired ns a 0 + excess wired ns b 0) (k + 1) (omega arith) (omega arith) (λ m l. h m (omega (arith, l))) in
    let p = step wired a k ns in
    let q = step wired b k ns in
    let less = shared.least ns b k has assigned in
    omega (arith, same, p, q, less)
