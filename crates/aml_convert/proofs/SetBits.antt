-- The highest and the lowest set bit.
use Rattle.std.proofs.Common.{◌≡◌, ◌≤◌, ◌<◌, ◌-◌, ◌+◌, ◌^◌, ◌==◌, ℕ, Bool, true, false, if◌then◌else◌, suc, arith, rules}
use Rattle.std.proofs.lemmas.Nat.{leading_top}
use Rattle.std.proofs.lemmas.Nat.Bits.{bit_at-trailing_zeros}
use Rattle.std.specs.Int.{bit_at, w64}
use Rattle.std.specs.Int.Count.{count_trailing_zeros}
use Rattle.aml_convert.specs.Operators.{highest_set_bit, lowest_set_bit}

pub highest : (n : ℕ) → 0 < n → n < 2 ^ 64 → (2 ^ (highest_set_bit n - 1) ≤ n) × (n < 2 ^ highest_set_bit n)
highest n p q =
    let t = leading_top 64 n p q in
    let e : highest_set_bit n ≡ suc t.0 = omega (arith, t.1) in
    let d : highest_set_bit n - 1 ≡ t.0 = omega (arith, t.1) in
    rw (d, e) (t.2, t.3)

by_test : (b : Bool) (k : ℕ) → b ≡ false → (if b then 0 else 1 + k) - 1 ≡ k
by_test true k e = absurd (cc e)
by_test false k e = omega arith

isn't_zero : (n : ℕ) → 0 < n → (n == 0) ≡ false
isn't_zero n p = search rules

below : (n : ℕ) → 0 < n → lowest_set_bit n - 1 ≡ count_trailing_zeros 64 n
below n p = by_test (n == 0) (count_trailing_zeros 64 n) (isn't_zero n p)

pub lowest : (n : ℕ) → 0 < n → n < 2 ^ 64 → (bit_at n (lowest_set_bit n - 1) ≡ 1) × ((i : ℕ) → i < lowest_set_bit n - 1 → bit_at n i ≡ 0)
lowest n p q = rw (below n p) (let h = bit_at-trailing_zeros w64 n p q in (h.1, h.2))
