-- The bits of a page once one more was set.
use Rattle.std.proofs.Common.{◌≡◌, ℕ, ◌+◌, ◌*◌, ◌%◌, ◌^◌, ◌<◌, ◌≤◌, inl, inr, ap, ◌∙◌, arith}
use Rattle.std.specs.Prelude.{bit_or}
use Rattle.std.specs.Int.{bit_at, w64}
use Rattle.std.proofs.lemmas.Bool.{cases_lt}
use Rattle.std.proofs.lemmas.Nat.Bits.{bit_at_set_same, bit_at_set_other}

module _ (present old at n : ℕ) (small : at + n < 64) where
  abbrev pub marked : ℕ
  marked = bit_or present (1 * 2 ^ (at + n) % 18446744073709551616)

  pub marked_put : ((k : ℕ) → k < n → bit_at present (at + k) ≡ 1) → (k : ℕ) → k < n + 1 → bit_at marked (at + k) ≡ 1
  marked_put put k lt = elim (cases_lt k n) [
    | inl before ↦ bit_at_set_other w64 present (at + n) small (at + k) (λ e. absurd (omega (arith, e, before))) ∙ put k before
    | inr from ↦ ap (bit_at marked) (omega (arith, lt, from)) ∙ bit_at_set_same w64 present (at + n) small
  ]

  pub marked_below : ((i : ℕ) → i < at → bit_at present i ≡ bit_at old i) → (i : ℕ) → i < at → bit_at marked i ≡ bit_at old i
  marked_below below i lt = bit_at_set_other w64 present (at + n) small i (λ e. absurd (omega (arith, e, lt))) ∙ below i lt

  pub marked_above : ((i : ℕ) → at + n ≤ i → bit_at present i ≡ bit_at old i) → (i : ℕ) → at + (n + 1) ≤ i → bit_at marked i ≡ bit_at old i
  marked_above above i le = bit_at_set_other w64 present (at + n) small i (λ e. absurd (omega (arith, e, le))) ∙ above i (omega (arith, le))
