-- Which interrupts no link may be given.
use Rattle.std.proofs.Common.{◌≡◌, ℕ, zero, suc, ◌<◌, ◌⊎◌, inl, inr, List, [], ◌∷◌, ◌++◌, length, refl, subst, sym, arith, Option, Some, None}
use Rattle.std.specs.Prelude.{Contains, ◌==◌}
use Rattle.std.specs.List.{Any, slice_index_or}
use Rattle.std.specs.Ordering.{nat_cmp}
use Rattle.std.specs.FinMap.{nat_cmp-IsAntisymmetric}
use Rattle.std.proofs.lemmas.Cmp.{nat_cmp_total}
use Rattle.std.proofs.lemmas.List.Elements.{Contains-append_left, Contains-append_right, Contains-append_cases}
use Rattle.std.proofs.lemmas.List.Kept.{Contains-dedup_nat, Contains-from_dedup}
use Rattle.std.proofs.lemmas.List.Sorted.{Contains-permutation, IsPermutation-sym}
use Rattle.route_report.specs.Ordered.{in_order, barred, barred_by}
use Rattle.route_report.specs.Reports.{SparedDevice, ReportedOptions}
use Rattle.route_report.specs.Readable.{spared_numbers, spared_by, spared_devices}
use Rattle.route_report.proofs.Sorting.{same_elements}

first_or_behind : {X : Type 0} (x n : X) (xs : List X) → Contains (x ∷ xs) n → (x ≡ n) ⊎ Contains xs n
first_or_behind {X} x n xs c = at c.0 c.1 c.2
  where
    at : (k : ℕ) → k < length (x ∷ xs) → slice_index_or (x ∷ xs) k n ≡ n → (x ≡ n) ⊎ Contains xs n
    at zero h e = inl e
    at (suc k) h e = inr (k, omega arith, e)

pub barred_has : (avoid spared : List ℕ) (n : ℕ) → Contains (avoid ++ spared) n → Contains (barred avoid spared) n
barred_has avoid spared n c =
    Contains-dedup_nat (in_order nat_cmp (avoid ++ spared)) n (Contains-permutation (avoid ++ spared) (in_order nat_cmp (avoid ++ spared)) n (same_elements nat_cmp nat_cmp_total nat_cmp-IsAntisymmetric (avoid ++ spared)) c)

pub barred_only : (avoid spared : List ℕ) (n : ℕ) → Contains (barred avoid spared) n → Contains (avoid ++ spared) n
barred_only avoid spared n c =
    let xs = avoid ++ spared in
    let sorted = in_order nat_cmp xs in
    Contains-permutation sorted xs n (IsPermutation-sym xs sorted (same_elements nat_cmp nat_cmp_total nat_cmp-IsAntisymmetric xs)) (Contains-from_dedup ◌==◌ sorted n c)

numbers_have : (ss : List SparedDevice) (s : SparedDevice) (n : ℕ) → Contains ss s → Contains s.interrupts n → Contains (spared_numbers ss) n
unfolding spared_numbers
numbers_have [] s n c d = absurd (let h = c.1 in omega arith)
numbers_have (t ∷ ts) s n c d = elim (first_or_behind t s ts c) [
  | inl e ↦ Contains-append_left t.interrupts (spared_numbers ts) n (subst (λ (u : SparedDevice). Contains u.interrupts n) (sym e) d)
  | inr b ↦ Contains-append_right t.interrupts (spared_numbers ts) n (numbers_have ts s n b d)
]

numbers_only : (ss : List SparedDevice) (n : ℕ) → Contains (spared_numbers ss) n → Any (λ s. Contains s.interrupts n) ss
unfolding spared_numbers
numbers_only [] n c = absurd (let h = c.1 in omega arith)
numbers_only (t ∷ ts) n c = elim (Contains-append_cases t.interrupts (spared_numbers ts) n c) [
  | inl d ↦ (0, t, omega arith, refl, d)
  | inr d ↦ let a = numbers_only ts n d in let within = a.2 in (suc a.0, a.1, omega arith, a.3, a.4)
]

pub spared_barred : (avoid : List ℕ) (o : Option ReportedOptions) (s : SparedDevice) (n : ℕ) → Contains (spared_devices o) s → Contains s.interrupts n → Contains (barred_by avoid (spared_by o)) n
spared_barred avoid None s n c d = absurd (let h = c.1 in omega arith)
spared_barred avoid (Some o) s n c d = barred_has avoid (spared_numbers o.spared) n (Contains-append_right avoid (spared_numbers o.spared) n (numbers_have o.spared s n c d))

pub avoided_barred : (avoid : List ℕ) (o : Option ReportedOptions) (n : ℕ) → Contains avoid n → Contains (barred_by avoid (spared_by o)) n
avoided_barred avoid None n c = c
avoided_barred avoid (Some o) n c = barred_has avoid (spared_numbers o.spared) n (Contains-append_left avoid (spared_numbers o.spared) n c)

pub nothing_else : (avoid : List ℕ) (o : Option ReportedOptions) (n : ℕ) → Contains (barred_by avoid (spared_by o)) n → Contains avoid n ⊎ Any (λ s. Contains s.interrupts n) (spared_devices o)
nothing_else avoid None n c = inl c
nothing_else avoid (Some o) n c = elim (Contains-append_cases avoid (spared_numbers o.spared) n (barred_only avoid (spared_numbers o.spared) n c)) [
  | inl d ↦ inl d
  | inr d ↦ inr (numbers_only o.spared n d)
]
