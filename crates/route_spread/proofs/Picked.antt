-- Links given some of the interrupts, counted interrupt by interrupt.
use Rattle.std.proofs.Common.{◌≡◌, ℕ, suc, ◌+◌, ◌<◌, Bool, true, false, cond, List, [], ◌∷◌, length, refl, sym, ◌∙◌, ap, arith, get_or}
use Rattle.std.specs.Prelude.{count_by, sum_by, ◌==◌}
use Rattle.std.proofs.lemmas.Bool.{false≢true, eqb-true, eq-eqb}
use Rattle.std.proofs.lemmas.List.Sums.{sum_by-cons}
use Rattle.route_model.specs.Routing.{given}
use Rattle.route_model.proofs.Counting.{one_if, count_cons}

abbrev pub pick : Bool → ℕ → ℕ
pick b x = cond b x 0

pick_zero : (b : Bool) → pick b 0 ≡ 0
pick_zero true = refl
pick_zero false = refl

pub pick_add : (b : Bool) (x y : ℕ) → pick b (x + y) ≡ pick b x + pick b y
pick_add true x y = refl
pick_add false x y = refl

pick_one : (b : Bool) → pick b 1 ≡ one_if b
pick_one true = refl
pick_one false = refl

-- the links given some of the numbers
abbrev pub picked : (ℕ → Bool) → List ℕ → List ℕ → ℕ
picked r a ns = sum_by (λ n. pick (r n) (given a n)) ns

picked_nil : (r : ℕ → Bool) (ns : List ℕ) → picked r [] ns ≡ 0
picked_nil r [] = refl
picked_nil r (n ∷ ns) = omega (arith, sum_by-cons (λ m. pick (r m) (given [] m)) n ns, pick_zero (r n), picked_nil r ns)

same_pick : (r : ℕ → Bool) (x n : ℕ) → pick (r n) (one_if (x == n)) ≡ pick (r x) (one_if (n == x))
same_pick r x n = go (x == n) (n == x) refl refl
  where
    go : (s t : Bool) → (x == n) ≡ s → (n == x) ≡ t → pick (r n) (one_if s) ≡ pick (r x) (one_if t)
    go true true e f = ap (λ m. pick (r m) 1) (sym (eqb-true x n e))
    go true false e f = absurd (false≢true (sym f ∙ eq-eqb n x (sym (eqb-true x n e))))
    go false true e f = absurd (false≢true (sym e ∙ eq-eqb x n (sym (eqb-true n x f))))
    go false false e f = pick_zero (r n) ∙ sym (pick_zero (r x))

picked_step : (r : ℕ → Bool) (x : ℕ) (a ns : List ℕ) → picked r (x ∷ a) ns ≡ pick (r x) (given ns x) + picked r a ns
picked_step r x a [] = omega (arith, pick_zero (r x))
picked_step r x a (n ∷ ns) =
    let s1 = sum_by-cons (λ m. pick (r m) (given (x ∷ a) m)) n ns in
    let s2 = sum_by-cons (λ m. pick (r m) (given a m)) n ns in
    let g1 = ap (pick (r n)) (count_cons (λ m. m == n) x a) ∙ pick_add (r n) (one_if (x == n)) (given a n) in
    let g2 = ap (pick (r x)) (count_cons (λ m. m == x) n ns) ∙ pick_add (r x) (one_if (n == x)) (given ns x) in
    let s = same_pick r x n in
    let ih = picked_step r x a ns in
    omega arith

-- where each link's number stands once among the numbers
pub picked_count : (r : ℕ → Bool) (ns a : List ℕ) → ((i : ℕ) → i < length a → given ns (get_or a i 0) ≡ 1) → picked r a ns ≡ count_by r a
picked_count r ns [] h = picked_nil r ns
picked_count r ns (x ∷ a) h =
    let s = picked_step r x a ns in
    let one = ap (pick (r x)) (h 0 (omega arith)) ∙ pick_one (r x) in
    let ih = picked_count r ns a (λ i l. h (suc i) (omega arith)) in
    omega (arith, s, one, ih, count_cons r x a)
