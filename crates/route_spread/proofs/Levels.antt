use Rattle.std.proofs.Common.{◌≡◌, ℕ, ◌+◌, ◌-◌, ◌<◌, ◌≤◌, Bool, true, false, cond, List, [], ◌∷◌, length, refl, arith, get_or, inl, inr}
use Rattle.std.specs.Prelude.{sum_by, ◌⊎◌}
use Rattle.std.proofs.lemmas.Bool.{false≢true, cases_lt}
use Rattle.std.proofs.lemmas.List.Sums.{sum_by-cons}
use Rattle.route_model.specs.Routing.{given, wired_to, load, IsAssignment}
use Rattle.route_model.proofs.Assignments.{length_assignment, assignment_at}
use Rattle.route_model.proofs.Hall.{count_pointwise}
use Rattle.route_spread.specs.Sharing.{excess, IsLeastShared, height, IsLevelled, HasOffered}
use Rattle.route_spread.proofs.Picked.{pick, picked, pick_add, picked_count}

abbrev side : {A B : Type 0} → A ⊎ B → Bool
side (inl a) = true
side (inr b) = false

-- whether a height is above k
abbrev above : ℕ → ℕ → Bool
above k h = side (cases_lt k h)

above_yes : (k h : ℕ) → above k h ≡ true → k < h
above_yes k h e = go (cases_lt k h) e
  where
    go : (c : (k < h) ⊎ (h ≤ k)) → side c ≡ true → k < h
    go (inl l) e = l
    go (inr g) e = absurd (false≢true e)

yes_above : (k h : ℕ) → k < h → above k h ≡ true
yes_above k h l = go (cases_lt k h)
  where
    go : (c : (k < h) ⊎ (h ≤ k)) → side c ≡ true
    go (inl l) = refl
    go (inr g) = absurd (omega arith)

-- a load within one of its height: what is above k
at_level : (k x h : ℕ) → x ≤ h → h ≤ x + 1 → (x - k) + pick (above k h) k ≡ pick (above k h) x
at_level k x h lo hi = go (cases_lt k h)
  where
    go : (c : (k < h) ⊎ (h ≤ k)) → (x - k) + pick (side c) k ≡ pick (side c) x
    go (inl l) = omega arith
    go (inr g) = omega arith

any_level : (k x : ℕ) (b : Bool) → pick b x ≤ (x - k) + pick b k
any_level k x true = omega arith
any_level k x false = omega arith

within_one : (x : ℕ) (b : Bool) → (x ≤ x + cond b 1 0) × (x + cond b 1 0 ≤ x + 1)
within_one x true = (omega arith, omega arith)
within_one x false = (omega arith, omega arith)

-- wired sources of some of the numbers
abbrev picked_wired : (ℕ → Bool) → List (ℕ × ℕ) → List ℕ → ℕ
picked_wired r wired ns = sum_by (λ n. pick (r n) (wired_to wired n)) ns

abbrev picked_rooms : (ℕ → Bool) → ℕ → List ℕ → ℕ
picked_rooms r k ns = sum_by (λ n. pick (r n) k) ns

exact : (wired : List (ℕ × ℕ)) (a : List ℕ) (k : ℕ) (r : ℕ → Bool) → ((n : ℕ) → (load wired a n - k) + pick (r n) k ≡ pick (r n) (load wired a n)) → (ns : List ℕ) → excess wired ns a k + picked_rooms r k ns ≡ picked r a ns + picked_wired r wired ns
exact wired a k r h [] = refl
exact wired a k r h (n ∷ ns) =
    let s1 = sum_by-cons (λ m. load wired a m - k) n ns in
    let s2 = sum_by-cons (λ m. pick (r m) k) n ns in
    let s3 = sum_by-cons (λ m. pick (r m) (given a m)) n ns in
    let s4 = sum_by-cons (λ m. pick (r m) (wired_to wired m)) n ns in
    let p = pick_add (r n) (given a n) (wired_to wired n) in
    let q = h n in
    let ih = exact wired a k r h ns in
    omega arith

at_least : (wired : List (ℕ × ℕ)) (b : List ℕ) (k : ℕ) (r : ℕ → Bool) (ns : List ℕ) → picked r b ns + picked_wired r wired ns ≤ excess wired ns b k + picked_rooms r k ns
at_least wired b k r [] = omega arith
at_least wired b k r (n ∷ ns) =
    let s1 = sum_by-cons (λ m. load wired b m - k) n ns in
    let s2 = sum_by-cons (λ m. pick (r m) k) n ns in
    let s3 = sum_by-cons (λ m. pick (r m) (given b m)) n ns in
    let s4 = sum_by-cons (λ m. pick (r m) (wired_to wired m)) n ns in
    let p = pick_add (r n) (given b n) (wired_to wired n) in
    let q = any_level k (load wired b n) (r n) in
    let ih = at_least wired b k r ns in
    omega arith

once : (offers : List (List ℕ)) (ns : List ℕ) → HasOffered offers ns → (b : List ℕ) → IsAssignment offers b → (i : ℕ) → i < length b → given ns (get_or b i 0) ≡ 1
once offers ns has b h i l = has i (get_or b i 0) (assignment_at offers b i h l)

-- With some interrupts raised by one no link can move down: no assignment has less above any level.
pub levelled_least : (offers : List (List ℕ)) (wired : List (ℕ × ℕ)) (raised : ℕ → Bool) (a : List ℕ) → IsLevelled offers wired raised a → IsLeastShared offers wired a
levelled_least offers wired raised a levelled = record { offered = levelled.offered; least = least }
  where
    least : (numbers b : List ℕ) (k : ℕ) → HasOffered offers numbers → IsAssignment offers b → excess wired numbers a k ≤ excess wired numbers b k
    least numbers b k has assigned =
        let la = length_assignment offers a levelled.offered in
        let lb = length_assignment offers b assigned in
        let above_k : ℕ → Bool = λ n. above k (height wired raised a n) in
        let ea = exact wired a k above_k (λ n. let w = within_one (load wired a n) (raised n) in at_level k (load wired a n) (height wired raised a n) w.0 w.1) numbers in
        let eb = at_least wired b k above_k numbers in
        let pa = picked_count above_k numbers a (once offers numbers has a levelled.offered) in
        let pb = picked_count above_k numbers b (once offers numbers has b assigned) in
        let c = count_pointwise above_k above_k 0 0 a b (omega arith) (λ i l e.
        let lo = above_yes k (height wired raised a (get_or a i 0)) e in
        let step = levelled.not_lower i (get_or b i 0) l (assignment_at offers b i assigned (omega arith)) in
        yes_above k (height wired raised a (get_or b i 0)) (omega arith)) in
        omega (arith, ea, eb, pa, pb, c)
