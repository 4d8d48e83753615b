-- How often a list has each of some ascending numbers: no more than it is long, all together.
use Rattle.std.proofs.Common.{◌≡◌, ℕ, ◌+◌, ◌≤◌, Bool, true, false, cond, List, [], ◌∷◌, length, map, refl, ◌∙◌, sym, ap, arith, rules}
use Rattle.std.specs.Prelude.{◌==◌, sum_by, count_by}
use Rattle.std.specs.List.{AllByRecursion}
use Rattle.std.specs.List.Sorted.{IsStrictlySortedBy, IsStrictlyIncreasing}
use Rattle.std.specs.Ordering.{nat_cmp}
use Rattle.std.specs.declared.cmp.Ordering.TheVariants.{Less}
use Rattle.std.proofs.lemmas.Bool.{eqb-true}
use Rattle.std.proofs.lemmas.List.Sums.{sum_by-cons}
use Rattle.std.proofs.lemmas.Map.Keys.{IsStrictlyIncreasing-from_sorted}
use Rattle.acpi_links.specs.Problems.{counted, wired_counts}
use Rattle.acpi_resources.specs.Numbers.{set_of}

times : ℕ → List ℕ → ℕ
times n ms = count_by (λ m. m == n) ms

total : List ℕ → List ℕ → ℕ
total set ms = sum_by (λ (w : ℕ × ℕ). w.1) (map (counted ms) set)

total-nil : (ms : List ℕ) → total [] ms ≡ 0
unfolding total
total-nil ms = refl

total-cons : (x : ℕ) (xs ms : List ℕ) → total (x ∷ xs) ms ≡ times x ms + total xs ms
unfolding total times
total-cons x xs ms = sum_by-cons (λ (w : ℕ × ℕ). w.1) (counted ms x) (map (counted ms) xs)

times-nil : (n : ℕ) → times n [] ≡ 0
unfolding times
times-nil n = refl

times-cons : (n m : ℕ) (ms : List ℕ) → times n (m ∷ ms) ≡ cond (m == n) 1 0 + times n ms
unfolding times
times-cons n m ms = sum_by-cons (λ k. cond (k == n) 1 0) m ms

times-other : (n m : ℕ) (ms : List ℕ) → (m == n) ≡ false → times n (m ∷ ms) ≡ 0 + times n ms
times-other n m ms e = times-cons n m ms ∙ ap (λ b. cond b 1 0 + times n ms) e

times-more : (n m : ℕ) (ms : List ℕ) → (m == n) ≡ true → times n (m ∷ ms) ≡ 1 + times n ms
times-more n m ms e = times-cons n m ms ∙ ap (λ b. cond b 1 0 + times n ms) e

other : (m n : ℕ) → nat_cmp m n ≡ Less → (m == n) ≡ false
other m n e = grind (arith, rules)

none-listed : (set : List ℕ) → total set [] ≡ 0
none-listed [] = total-nil []
none-listed (x ∷ xs) =
    let h = total-cons x xs [] in
    let i = times-nil x in
    let j = none-listed xs in
    omega arith

above : (m : ℕ) (ms set : List ℕ) → AllByRecursion (λ n. nat_cmp m n ≡ Less) set → total set (m ∷ ms) ≡ total set ms
above m ms [] a = total-nil (m ∷ ms) ∙ sym (total-nil ms)
above m ms (n ∷ ns) a =
    let h = total-cons n ns (m ∷ ms) in
    let i = total-cons n ns ms in
    let j = times-other n m ms (other m n a.0) in
    let k = above m ms ns a.1 in
    omega arith

one-more-at : (m n : ℕ) (ms ns : List ℕ) (b : Bool) → (m == n) ≡ b → AllByRecursion (λ k. nat_cmp n k ≡ Less) ns → total ns (m ∷ ms) ≤ total ns ms + 1
    → total (n ∷ ns) (m ∷ ms) ≤ total (n ∷ ns) ms + 1
one-more-at m n ms ns true e a ih =
    let h = total-cons n ns (m ∷ ms) in
    let i = total-cons n ns ms in
    let j = times-more n m ms e in
    let same : m ≡ n = eqb-true m n e in
    let k : total ns (m ∷ ms) ≡ total ns ms = above m ms ns (rw same a) in
    omega arith
one-more-at m n ms ns false e a ih =
    let h = total-cons n ns (m ∷ ms) in
    let i = total-cons n ns ms in
    let j = times-other n m ms e in
    omega arith

one-more : (m : ℕ) (ms set : List ℕ) → IsStrictlySortedBy nat_cmp set → total set (m ∷ ms) ≤ total set ms + 1
unfolding IsStrictlySortedBy
one-more m ms [] s = let h = total-nil (m ∷ ms) in omega arith
one-more m ms (n ∷ ns) s = one-more-at m n ms ns (m == n) refl s.0 (one-more m ms ns s.1)

few : (set ms : List ℕ) → IsStrictlySortedBy nat_cmp set → total set ms ≤ length ms
few set [] s = let h = none-listed set in omega arith
few set (m ∷ ms) s =
    let h = one-more m ms set s in
    let i = few set ms s in
    omega arith

counts-few : (set ms : List ℕ) → IsStrictlySortedBy nat_cmp set → sum_by (λ (w : ℕ × ℕ). w.1) (map (counted ms) set) ≤ length ms
unfolding total
counts-few set ms s = few set ms s

counted-numbers : (ms set : List ℕ) → map (λ (w : ℕ × ℕ). w.0) (map (counted ms) set) ≡ set
counted-numbers ms [] = refl
counted-numbers ms (n ∷ ns) = ap (λ rest. n ∷ rest) (counted-numbers ms ns)

pub counts_ascend : (ms : List ℕ) (counts : List (ℕ × ℕ)) → IsStrictlySortedBy nat_cmp (set_of ms) → counts ≡ wired_counts ms → IsStrictlyIncreasing (map (λ (w : ℕ × ℕ). w.0) counts)
unfolding wired_counts
counts_ascend ms counts s e = rw (e, counted-numbers ms (set_of ms)) (IsStrictlyIncreasing-from_sorted (set_of ms) s)

pub counts_within : (ms : List ℕ) (counts : List (ℕ × ℕ)) (k : ℕ) → length ms ≤ k → IsStrictlySortedBy nat_cmp (set_of ms) → counts ≡ wired_counts ms → sum_by (λ (w : ℕ × ℕ). w.1) counts ≤ k
unfolding wired_counts
counts_within ms counts k l s e = rw e (let h = counts-few (set_of ms) ms s in omega arith)
