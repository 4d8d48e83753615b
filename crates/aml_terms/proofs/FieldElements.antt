-- Which field element begins with a byte.
use Rattle.std.specs.Prelude.{◌≡◌, ◌≢◌, ℕ, ◌==◌, true, false, refl, if◌then◌else◌}
use Rattle.std.proofs.Common.{sym, arith}
use Rattle.aml_marks.specs.Marked.{Place, Below, first, field_of, a_field, a_reserved_field, an_access_field, an_extended_access_field, a_named_field}

is_not : (b n : ℕ) → b ≢ n → (b == n) ≡ false
is_not b n ne = grind (arith, ne)

module _ (below : Below) (p : Place) (b : ℕ) (is : b ≡ first p.rest) where
  pub reserved : b ≡ 0 → a_field below p ≡ a_reserved_field p
  unfolding a_field
  reserved at_0 = rw (← is, at_0) refl

  pub access : b ≢ 0 → b ≡ 1 → a_field below p ≡ an_access_field p
  unfolding a_field
  access at_0 at_1 = rw (← is, at_1) refl

  pub extended_access : b ≢ 0 → b ≢ 1 → b ≢ 2 → b ≡ 3 → a_field below p ≡ an_extended_access_field p
  unfolding a_field
  extended_access at_0 at_1 at_2 at_3 = rw (← is, at_3) refl

  pub named : b ≢ 0 → b ≢ 1 → b ≢ 2 → b ≢ 3 → a_field below p ≡ a_named_field p
  unfolding a_field
  named at_0 at_1 at_2 at_3 = rw (← is, is_not b 0 at_0, is_not b 1 at_1, is_not b 2 at_2, is_not b 3 at_3) refl
