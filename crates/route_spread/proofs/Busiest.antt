-- Links that share as little as they can are least busy too.
use Rattle.std.proofs.Common.{◌≡◌, ℕ, zero, suc, ◌-◌, ◌<◌, ◌≤◌, Bool, true, false, cond, List, [], ◌∷◌, ◌++◌, refl, sym, ◌∙◌, ap, arith, get_or, inl, inr}
use Rattle.std.specs.Prelude.{◌⊎◌, ◌==◌, ◌||◌, Contains}
use Rattle.std.specs.List.{list_any}
use Rattle.std.proofs.lemmas.Bool.{eqb-true}
use Rattle.std.proofs.lemmas.List.Elements.{Contains-append_left, Contains-append_right}
use Rattle.std.proofs.lemmas.List.Sums.{sum_by-cons, get_or-le-sum_by}
use Rattle.route_model.specs.Routing.{given, load, busiest, IsAssignment, IsLeast}
use Rattle.route_model.specs.Placement.{Offers}
use Rattle.route_model.proofs.Counting.{one_if, count_cons}
use Rattle.route_model.proofs.Hall.{counted_somewhere, zero_or_more}
use Rattle.route_model.proofs.Filtered.{contains_any}
use Rattle.route_model.proofs.Assignments.{assignment_at}
use Rattle.route_model.proofs.Loads.{load-le, busiest-le}
use Rattle.route_spread.specs.Sharing.{excess, IsLeastShared, HasOffered}

abbrev any_is : List ℕ → ℕ → Bool
any_is xs n = list_any (λ m. m == n) xs

-- each number of a list once
once_each : List ℕ → List ℕ
once_each [] = []
once_each (x ∷ xs) = cond (any_is xs x) (once_each xs) (x ∷ once_each xs)

once_count : (xs : List ℕ) (n : ℕ) → given (once_each xs) n ≡ one_if (any_is xs n)
unfolding once_each
once_count [] n = refl
once_count (x ∷ xs) n = go (any_is xs x) (x == n) refl refl (once_count xs n)
  where
    go : (b same : Bool) → any_is xs x ≡ b → (x == n) ≡ same → given (once_each xs) n ≡ one_if (any_is xs n) → given (cond b (once_each xs) (x ∷ once_each xs)) n ≡ one_if (same || any_is xs n)
    go true true e f ih = let h : any_is xs n ≡ true = ap (any_is xs) (sym (eqb-true x n f)) ∙ e in ih ∙ ap one_if h
    go true false e f ih = ih
    go false true e f ih =
        let h : one_if (any_is xs n) ≡ 0 = ap one_if (ap (any_is xs) (sym (eqb-true x n f)) ∙ e) in
        let c = count_cons (λ m. m == n) x (once_each xs) in
        let o = ap one_if f in
        omega (arith, ih, h, c, o)
    go false false e f ih =
        let c = count_cons (λ m. m == n) x (once_each xs) in
        let o = ap one_if f in
        omega (arith, ih, c, o)

-- all that is offered
pub flat : List (List ℕ) → List ℕ
flat [] = []
flat (o ∷ os) = o ++ flat os

pub in_flat : (offers : List (List ℕ)) (l n : ℕ) → Offers offers l n → Contains (flat offers) n
unfolding flat
in_flat [] l n c = absurd (let b = c.1 in omega arith)
in_flat (o ∷ os) zero n c = Contains-append_left o (flat os) n c
in_flat (o ∷ os) (suc l) n c = Contains-append_right o (flat os) n (in_flat os l n c)

offered_once : (offers : List (List ℕ)) → HasOffered offers (once_each (flat offers))
offered_once offers l n o = once_count (flat offers) n ∙ ap one_if (contains_any n (flat offers) (in_flat offers l n o))

-- no sources above the busiest
none_above : (wired : List (ℕ × ℕ)) (b : List ℕ) (k : ℕ) → busiest wired b ≤ k → (ns : List ℕ) → excess wired ns b k ≡ 0
none_above wired b k h [] = refl
none_above wired b k h (n ∷ ns) =
    let s = sum_by-cons (λ m. load wired b m - k) n ns in
    let l = load-le wired b n in
    let ih = none_above wired b k h ns in
    omega arith

below_all : (wired : List (ℕ × ℕ)) (a : List ℕ) (k n : ℕ) (ns : List ℕ) → 0 < given ns n → load wired a n - k ≤ excess wired ns a k
below_all wired a k n ns more =
    let w = counted_somewhere (λ m. m == n) 0 ns more in
    let at = get_or-le-sum_by (λ m. load wired a m - k) ns w.0 0 w.1 in
    let same = eqb-true (get_or ns w.0 0) n w.2 in
    rw same at at

pub shared_least : (offers : List (List ℕ)) (wired : List (ℕ × ℕ)) (a : List ℕ) → IsLeastShared offers wired a → IsLeast offers wired a
shared_least offers wired a shared = record { offered = shared.offered; least = λ b h. busiest-le wired a (busiest wired b) (λ i. go b h i (zero_or_more (given a i))) }
  where
    go : (b : List ℕ) → IsAssignment offers b → (i : ℕ) → (given a i ≡ 0) ⊎ (0 < given a i) → load wired a i ≤ busiest wired b
    go b h i (inl none) = let l = load-le wired b i in omega arith
    go b h i (inr more) =
        let w = counted_somewhere (λ m. m == i) 0 a more in
        let is = eqb-true (get_or a w.0 0) i w.2 in
        let o = rw is at (assignment_at offers a w.0 shared.offered w.1) in
        let ns = once_each (flat offers) in
        let one = offered_once offers w.0 i o in
        let up = below_all wired a (busiest wired b) i ns (omega (arith, one)) in
        let least = shared.least ns b (busiest wired b) (offered_once offers) h in
        let z = none_above wired b (busiest wired b) (omega arith) ns in
        omega (arith, up, least, z)
