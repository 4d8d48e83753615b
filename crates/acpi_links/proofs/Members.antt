-- Which elements a set has after one more was put into it, and that it ascends.
use Rattle.std.proofs.Common.{◌≡◌, ℕ, zero, suc, ◌<◌, ◌⊎◌, List, [], ◌∷◌, length, get_or, refl, sym, ◌∙◌, ap, subst, inl, inr, arith}
use Rattle.std.specs.Prelude.{Contains}
use Rattle.std.specs.List.{AllByRecursion}
use Rattle.std.specs.List.Sorted.{IsStrictlySortedBy}
use Rattle.std.specs.declared.cmp.Ordering.{Ordering}
use Rattle.std.specs.declared.cmp.Ordering.TheVariants.{Less, Equal, Greater}
use Rattle.std.specs.Ordering.{match_ordering, ordering_reverse}
use Rattle.std.specs.Cmp.{IsTotalOrder}
use Rattle.std.specs.FinMap.{IsAntisymmetric}
use Rattle.std.specs.BTreeSet.{insert_key}

module _ {X : Type 0} where
  pub first : (x : X) (xs : List X) → Contains (x ∷ xs) x
  first x xs = (0, omega arith, refl)

  pub behind : (x n : X) (xs : List X) → Contains xs n → Contains (x ∷ xs) n
  behind x n xs c = (suc c.0, (let h = c.1 in omega arith), c.2)

  pub first_or_behind : (x n : X) (xs : List X) → Contains (x ∷ xs) n → (x ≡ n) ⊎ Contains xs n
  first_or_behind x n xs c = at c.0 c.1 c.2
    where
      at : (k : ℕ) → k < length (x ∷ xs) → get_or (x ∷ xs) k n ≡ n → (x ≡ n) ⊎ Contains xs n
      at zero h e = inl e
      at (suc k) h e = inr (k, omega arith, e)

  pub no_member : (n : X) → Contains [] n → ⊥
  no_member n c = let h = c.1 in omega arith

module _ {X : Type 0} (order : X → X → Ordering) where
  pub inserted_has : IsAntisymmetric order → (set : List X) (k : X) → Contains (insert_key order set k) k
  inserted_has exact [] k = first k []
  inserted_has exact (x ∷ set) k = by (order k x) refl (inserted_has exact set k)
    where
      by : (o : Ordering) → order k x ≡ o → Contains (insert_key order set k) k → Contains (match_ordering o (k ∷ x ∷ set) (x ∷ set) (x ∷ insert_key order set k)) k
      by Less e more = first k (x ∷ set)
      by Equal e more = subst (Contains (x ∷ set)) (sym (exact k x e)) (first x set)
      by Greater e more = behind x k (insert_key order set k) more

  pub inserted_keeps : (set : List X) (k n : X) → Contains set n → Contains (insert_key order set k) n
  inserted_keeps [] k n c = behind k n [] c
  inserted_keeps (x ∷ set) k n c = by (order k x) (inserted_keeps set k n)
    where
      by : (o : Ordering) → (Contains set n → Contains (insert_key order set k) n) → Contains (match_ordering o (k ∷ x ∷ set) (x ∷ set) (x ∷ insert_key order set k)) n
      by Less more = behind k n (x ∷ set) c
      by Equal more = c
      by Greater more = elim (first_or_behind x n set c) [
        | inl e ↦ subst (Contains (x ∷ insert_key order set k)) e (first x (insert_key order set k))
        | inr d ↦ behind x n (insert_key order set k) (more d)
      ]

  pub inserted_only : (set : List X) (k n : X) → Contains (insert_key order set k) n → (k ≡ n) ⊎ Contains set n
  inserted_only [] k n c = first_or_behind k n [] c
  inserted_only (x ∷ set) k n c = by (order k x) c (inserted_only set k n)
    where
      by : (o : Ordering) → Contains (match_ordering o (k ∷ x ∷ set) (x ∷ set) (x ∷ insert_key order set k)) n → (Contains (insert_key order set k) n → (k ≡ n) ⊎ Contains set n) → (k ≡ n) ⊎ Contains (x ∷ set) n
      by Less d more = first_or_behind k n (x ∷ set) d
      by Equal d more = inr d
      by Greater d more = elim (first_or_behind x n (insert_key order set k) d) [
        | inl e ↦ inr (subst (Contains (x ∷ set)) e (first x set))
        | inr b ↦ elim (more b) [ inl e ↦ inl e | inr h ↦ inr (behind x n set h) ]
      ]

  all_inserted : (P : X → Type 0) (set : List X) (k : X) → AllByRecursion P set → P k → AllByRecursion P (insert_key order set k)
  all_inserted P [] k all p = (p, all)
  all_inserted P (x ∷ set) k all p = by (order k x) (all_inserted P set k all.1 p)
    where
      by : (o : Ordering) → AllByRecursion P (insert_key order set k) → AllByRecursion P (match_ordering o (k ∷ x ∷ set) (x ∷ set) (x ∷ insert_key order set k))
      by Less more = (p, all)
      by Equal more = all
      by Greater more = (all.0, more)

  all_below : IsTotalOrder order → (k x : X) (set : List X) → order k x ≡ Less → AllByRecursion (λ y. order x y ≡ Less) set → AllByRecursion (λ y. order k y ≡ Less) set
  all_below total k x [] e all = all
  all_below total k x (y ∷ set) e all = (total.trans k x y e all.0, all_below total k x set e all.1)

  pub inserted_ascends : IsTotalOrder order → (set : List X) (k : X) → IsStrictlySortedBy order set → IsStrictlySortedBy order (insert_key order set k)
  unfolding IsStrictlySortedBy
  inserted_ascends total [] k up = (tt, tt)
  inserted_ascends total (x ∷ set) k up = by (order k x) refl (inserted_ascends total set k up.1)
    where
      by : (o : Ordering) → order k x ≡ o → IsStrictlySortedBy order (insert_key order set k) → IsStrictlySortedBy order (match_ordering o (k ∷ x ∷ set) (x ∷ set) (x ∷ insert_key order set k))
      by Less e more = ((e, all_below total k x set e up.0), up)
      by Equal e more = up
      by Greater e more = (all_inserted (λ y. order x y ≡ Less) set k up.0 (total.antisymm x k ∙ ap ordering_reverse e), more)
