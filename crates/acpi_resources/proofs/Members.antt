-- A set has the numbers of the list that it is made of, and no other.
use Rattle.std.proofs.Common.{◌≡◌, ℕ, zero, suc, ◌<◌, ◌⊎◌, List, [], ◌∷◌, length, Ordering, refl, sym, subst, inl, inr, arith}
use Rattle.std.specs.Prelude.{Contains, ◌↔◌}
use Rattle.std.specs.List.{slice_index_or}
use Rattle.std.specs.Ordering.{nat_cmp, match_ordering, MatchOrdering}
use Rattle.std.specs.Cmp.{ranks}
use Rattle.std.specs.declared.cmp.Ordering.TheVariants.{Less, Equal, Greater}
use Rattle.std.specs.BTreeSet.{insert_key}
use Rattle.acpi_resources.specs.Numbers.{with_numbers, set_of}

first : (x : ℕ) (xs : List ℕ) → Contains (x ∷ xs) x
first x xs = (0, omega arith, refl)

behind : (x n : ℕ) (xs : List ℕ) → Contains xs n → Contains (x ∷ xs) n
behind x n xs c = (suc c.0, (let h = c.1 in omega arith), c.2)

first_or_behind : (x n : ℕ) (xs : List ℕ) → Contains (x ∷ xs) n → (x ≡ n) ⊎ Contains xs n
first_or_behind x n xs c = at c.0 c.1 c.2
  where
    at : (k : ℕ) → k < length (x ∷ xs) → slice_index_or (x ∷ xs) k n ≡ n → (x ≡ n) ⊎ Contains xs n
    at zero h e = inl e
    at (suc k) h e = inr (k, omega arith, e)

inserted_has : (set : List ℕ) (k : ℕ) → Contains (insert_key nat_cmp set k) k
inserted_has [] k = first k []
inserted_has (x ∷ set) k =
    elim (nat_cmp k x) as (λ (o : Ordering). MatchOrdering o (k < x) (k ≡ x) (x < k) → Contains (match_ordering o (k ∷ x ∷ set) (x ∷ set) (x ∷ insert_key nat_cmp set k)) k) [
      | Less ↦ λ _. first k (x ∷ set)
      | Equal ↦ λ e. subst (Contains (x ∷ set)) (sym e) (first x set)
      | Greater ↦ λ _. behind x k (insert_key nat_cmp set k) (inserted_has set k)
    ] (ranks k x)

inserted_keeps : (set : List ℕ) (k n : ℕ) → Contains set n → Contains (insert_key nat_cmp set k) n
inserted_keeps [] k n c = behind k n [] c
inserted_keeps (x ∷ set) k n c =
    let P = λ (o : Ordering). Contains (match_ordering o (k ∷ x ∷ set) (x ∷ set) (x ∷ insert_key nat_cmp set k)) n in
    elim (nat_cmp k x) as P [
      | Less ↦ behind k n (x ∷ set) c
      | Equal ↦ c
      | Greater ↦ elim (first_or_behind x n set c) [
        | inl e ↦ subst (Contains (x ∷ insert_key nat_cmp set k)) e (first x (insert_key nat_cmp set k))
        | inr d ↦ behind x n (insert_key nat_cmp set k) (inserted_keeps set k n d)
      ]
    ]

inserted_only : (set : List ℕ) (k n : ℕ) → Contains (insert_key nat_cmp set k) n → (k ≡ n) ⊎ Contains set n
inserted_only [] k n c = first_or_behind k n [] c
inserted_only (x ∷ set) k n c =
    elim (nat_cmp k x) as (λ (o : Ordering). Contains (match_ordering o (k ∷ x ∷ set) (x ∷ set) (x ∷ insert_key nat_cmp set k)) n → (k ≡ n) ⊎ Contains (x ∷ set) n) [
      | Less ↦ λ c. first_or_behind k n (x ∷ set) c
      | Equal ↦ λ c. inr c
      | Greater ↦ λ c. elim (first_or_behind x n (insert_key nat_cmp set k) c) [
        | inl e ↦ inr (subst (Contains (x ∷ set)) e (first x set))
        | inr d ↦ elim (inserted_only set k n d) [ inl e ↦ inl e | inr b ↦ inr (behind x n set b) ]
      ]
    ] c

with_numbers_keeps : (set numbers : List ℕ) (n : ℕ) → Contains set n → Contains (with_numbers set numbers) n
unfolding with_numbers
with_numbers_keeps set [] n c = c
with_numbers_keeps set (k ∷ numbers) n c =
    with_numbers_keeps (insert_key nat_cmp set k) numbers n (inserted_keeps set k n c)

with_numbers_has : (set numbers : List ℕ) (n : ℕ) → Contains numbers n → Contains (with_numbers set numbers) n
unfolding with_numbers
with_numbers_has set [] n c = absurd (let h = c.1 in omega arith)
with_numbers_has set (k ∷ numbers) n c =
    elim (first_or_behind k n numbers c) [
      | inl e ↦ with_numbers_keeps (insert_key nat_cmp set k) numbers n (subst (Contains (insert_key nat_cmp set k)) e (inserted_has set k))
      | inr d ↦ with_numbers_has (insert_key nat_cmp set k) numbers n d
    ]

with_numbers_only : (set numbers : List ℕ) (n : ℕ) → Contains (with_numbers set numbers) n → Contains set n ⊎ Contains numbers n
unfolding with_numbers
with_numbers_only set [] n c = inl c
with_numbers_only set (k ∷ numbers) n c =
    elim (with_numbers_only (insert_key nat_cmp set k) numbers n c) [
      | inl d ↦ elim (inserted_only set k n d) [
        | inl e ↦ inr (subst (Contains (k ∷ numbers)) e (first k numbers))
        | inr b ↦ inl b
      ]
      | inr d ↦ inr (behind k n numbers d)
    ]

pub members_of_set : (numbers : List ℕ) (n : ℕ) → Contains (set_of numbers) n ↔ Contains numbers n
members_of_set numbers n = (
  λ c. elim (with_numbers_only [] numbers n c) [ inl d ↦ absurd (let h = d.1 in omega arith) | inr d ↦ d ],
  λ c. with_numbers_has [] numbers n c,
)
