-- There is an assignment under which links share as little as they can, and one that no other comes before is such a one.
use Rattle.std.proofs.Common.{◌≡◌, ℕ, zero, suc, ◌+◌, ◌*◌, ◌<◌, ◌≤◌, Bool, List, [], ◌∷◌, length, map, refl, sym, ◌∙◌, ap, arith, get_or, inl, inr}
use Rattle.std.specs.Prelude.{◌⊎◌, sum_by, Contains}
use Rattle.std.specs.List.{range_with_len}
use Rattle.std.specs.List.Sorted.{IsStrictlyIncreasing}
use Rattle.std.proofs.lemmas.Bool.{cases_lt}
use Rattle.std.proofs.lemmas.List.{length-map, get_or-map, get_or_default}
use Rattle.std.proofs.lemmas.List.FromFn.{length-range_with_len, get_or-range_with_len}
use Rattle.std.proofs.lemmas.List.Sums.{get_or-le-sum_by}
use Rattle.route_model.specs.Routing.{given, load, IsAssignment}
use Rattle.route_model.specs.Placement.{Offers}
use Rattle.route_model.proofs.Assignments.{length_assignment, assignment_at}
use Rattle.route_spread.specs.Marks.{AreLevelled, IsShifted}
use Rattle.route_numbers.specs.Numbers.{number_at}
use Rattle.route_spread.specs.Sharing.{excess, busier, HasOffered, IsLeastShared, NotBusier}
use Rattle.route_spread.specs.Assignments.{IsSharing}
use Rattle.route_spread.proofs.Busiest.{flat, in_flat}
use Rattle.route_spread.proofs.Sorted.{step, ends, alike, first_sorted}
use Rattle.route_spread.proofs.Shared.{levelled_shared, moved_sharing}
use Rattle.route_spread.proofs.Ways.{levelled_or_moved, contains_more}

-- from any assignment, by its places, links are moved until they share as little as they can
least_step : (offers : List (List ℕ)) (wired : List (ℕ × ℕ)) (numbers : List ℕ) (places : List (List ℕ)) (fuel : ℕ) → ((a choice loads : List ℕ) → IsSharing offers wired a numbers places choice loads → sum_by (λ x. x * x) loads < fuel → (b : List ℕ) × IsLeastShared offers wired b) → (a choice loads : List ℕ) → IsSharing offers wired a numbers places choice loads → sum_by (λ x. x * x) loads < fuel + 1 → (b : List ℕ) × IsLeastShared offers wired b
least_step offers wired numbers places fuel rest a choice loads sharing less = go (levelled_or_moved places choice loads (λ l x o. let b = sharing.numbered.below l x o in let e = sharing.long in omega arith) sharing.placed)
  where
    go : ((raised : List Bool) × AreLevelled places choice loads raised) ⊎ ((choice' : List ℕ) × (loads' : List ℕ) × (length choice' ≡ length choice) × (length loads' ≡ length loads) × IsShifted places choice choice' loads loads') → (b : List ℕ) × IsLeastShared offers wired b
    go (inl l) = (a, levelled_shared offers wired a numbers places choice loads sharing l.0 l.1)
    go (inr m) = rest (map (number_at numbers) m.0) m.0 m.1 (moved_sharing offers wired a numbers places choice loads sharing m.0 m.1 m.2 m.3 m.4.placed m.4.kept) (let c = m.4.cheaper in omega arith)

least_from : (offers : List (List ℕ)) (wired : List (ℕ × ℕ)) (numbers : List ℕ) (places : List (List ℕ)) (fuel : ℕ) (a choice loads : List ℕ) → IsSharing offers wired a numbers places choice loads → sum_by (λ x. x * x) loads < fuel → (b : List ℕ) × IsLeastShared offers wired b
least_from offers wired numbers places zero a choice loads sharing less = absurd (omega arith)
least_from offers wired numbers places (suc fuel) a choice loads sharing less = least_step offers wired numbers places fuel (least_from offers wired numbers places fuel) a choice loads sharing (omega arith)

-- all numbers up to the greatest one that is offered
abbrev top_of : List (List ℕ) → ℕ
top_of offers = sum_by (λ x. x) (flat offers) + 1

offered_below : (offers : List (List ℕ)) (l n : ℕ) → Offers offers l n → n < top_of offers
offered_below offers l n o = let c = in_flat offers l n o in let s = get_or-le-sum_by (λ x. x) (flat offers) c.0 n c.1 in let e = c.2 in omega arith

-- numbers below a bound are their own places there
same_number : (bound n : ℕ) → n < bound → number_at (range_with_len 0 bound) n ≡ n
same_number bound n b = let e = get_or-range_with_len 0 bound n 0 b in omega arith

same_list : (bound : ℕ) (ns : List ℕ) → ((n : ℕ) → Contains ns n → n < bound) → map (number_at (range_with_len 0 bound)) ns ≡ ns
same_list bound [] below = refl
same_list bound (n ∷ ns) below = ap (λ (m : ℕ). m ∷ map (number_at (range_with_len 0 bound)) ns) (same_number bound n (below n (0, omega arith, refl))) ∙ ap (λ (ms : List ℕ). n ∷ ms) (same_list bound ns (λ m c. below m (contains_more n ns m c)))

same_lists : (bound : ℕ) (os : List (List ℕ)) → ((l n : ℕ) → Offers os l n → n < bound) → map (map (number_at (range_with_len 0 bound))) os ≡ os
same_lists bound [] below = refl
same_lists bound (o ∷ os) below = ap (λ (ns : List ℕ). ns ∷ map (map (number_at (range_with_len 0 bound))) os) (same_list bound o (below 0)) ∙ ap (λ (ps : List (List ℕ)). o ∷ ps) (same_lists bound os (λ l m c. below (suc l) m c))

increasing : (bound : ℕ) → IsStrictlyIncreasing (range_with_len 0 bound)
increasing bound k b = let l = length-range_with_len 0 bound in let e = get_or-range_with_len 0 bound k 0 (omega arith) in let f = get_or-range_with_len 0 bound (k + 1) 0 (omega arith) in omega arith

-- an assignment, each interrupt known by its own number
sharing_of : (offers : List (List ℕ)) (wired : List (ℕ × ℕ)) (a : List ℕ) → IsAssignment offers a → IsSharing offers wired a (range_with_len 0 (top_of offers)) offers a (map (load wired a) (range_with_len 0 (top_of offers)))
sharing_of offers wired a assigned = record {
  up = increasing (top_of offers);
  numbered = record { below = λ l n o. let b = offered_below offers l n o in let e = length-range_with_len 0 (top_of offers) in omega arith; named = same_lists (top_of offers) offers (offered_below offers) };
  named = same_list (top_of offers) a (λ n c. let o = offered_below offers c.0 (get_or a c.0 0) (assignment_at offers a c.0 assigned c.1) in let e = get_or_default a c.0 0 n c.1 in let f = c.2 in omega arith);
  many = let e = length_assignment offers a assigned in omega arith;
  placed = λ k b. assignment_at offers a k assigned b;
  long = length-map (range_with_len 0 (top_of offers)) (load wired a);
  loaded = λ x b.
      let e = get_or-map (load wired a) (range_with_len 0 (top_of offers)) x 0 0 b in
      let l = length-range_with_len 0 (top_of offers) in
      let s = ap (given a) (same_number (top_of offers) x (omega arith)) in
      omega arith;
}

pub least_exists : (offers : List (List ℕ)) (wired : List (ℕ × ℕ)) (a : List ℕ) → IsAssignment offers a → (b : List ℕ) × IsLeastShared offers wired b
least_exists offers wired a assigned = least_from offers wired (range_with_len 0 (top_of offers)) offers (sum_by (λ x. x * x) (map (load wired a) (range_with_len 0 (top_of offers))) + 1) a a (map (load wired a) (range_with_len 0 (top_of offers))) (sharing_of offers wired a assigned) (omega arith)

-- where neither of two assignments comes before the other, they have the same loads
alike_at : (wired : List (ℕ × ℕ)) (ns a b : List ℕ) → NotBusier wired ns a b → NotBusier wired ns b a → (k : ℕ) → ((m : ℕ) → k + 1 ≤ m → busier wired ns a m ≡ busier wired ns b m) → (m : ℕ) → k ≤ m → busier wired ns a m ≡ busier wired ns b m
alike_at wired ns a b one other k above m le = go (cases_lt k m)
  where
    go : (k < m) ⊎ (m ≤ k) → busier wired ns a m ≡ busier wired ns b m
    go (inl less) = above m (omega arith)
    go (inr ge) =
        let e : m ≡ k = omega arith in
        let f = one k (λ j l. above j (omega arith)) in
        let g = other k (λ j l. sym (above j (omega arith))) in
        let h : busier wired ns a k ≡ busier wired ns b k = omega (arith, f, g) in
        ap (busier wired ns a) e ∙ (h ∙ sym (ap (busier wired ns b) e))

alike_from : (wired : List (ℕ × ℕ)) (ns a b : List ℕ) → NotBusier wired ns a b → NotBusier wired ns b a → (d k : ℕ) → excess wired ns a 0 ≤ d + k → excess wired ns b 0 ≤ d + k → (m : ℕ) → k ≤ m → busier wired ns a m ≡ busier wired ns b m
alike_from wired ns a b one other zero k x y m le =
    let p = step wired a m ns in
    let q = step wired b m ns in
    let r = ends wired a m ns in
    let s = ends wired b m ns in
    omega (arith, x, y, p, q, r, s)
alike_from wired ns a b one other (suc d) k x y m le = alike_at wired ns a b one other k (alike_from wired ns a b one other d (k + 1) (omega (arith, x)) (omega (arith, y))) m le

pub first_is_least : (offers : List (List ℕ)) (wired : List (ℕ × ℕ)) (a : List ℕ) → IsAssignment offers a → ((numbers b : List ℕ) → HasOffered offers numbers → IsAssignment offers b → NotBusier wired numbers a b) → IsLeastShared offers wired a
first_is_least offers wired a assigned first = record { offered = assigned; least = λ ns c k has h. least ns c k has h }
  where
    least : (ns c : List ℕ) (k : ℕ) → HasOffered offers ns → IsAssignment offers c → excess wired ns a k ≤ excess wired ns c k
    least ns c k has h =
        let b = least_exists offers wired a assigned in
        let d = excess wired ns a 0 + excess wired ns b.0 0 in
        let one = first ns b.0 has b.1.offered in
        let other = first_sorted offers wired b.0 b.1 ns a has assigned in
        let same = alike wired ns a b.0 (excess wired ns a 0 + excess wired ns b.0 0) k (omega arith) (omega arith) (alike_from wired ns a b.0 one other (excess wired ns a 0 + excess wired ns b.0 0) k (omega arith) (omega arith)) in
        let less = b.1.least ns c k has h in
        omega arith
