-- What a whole resource template says, and how interrupts are numbered in it.
use Rattle.std.specs.List.{range_with_len}
use Rattle.std.specs.List.Sorted.{IsStrictlyIncreasing}
use Rattle.std.specs.Int.RustNames.{bit_and}
use Rattle.std.specs.Prelude.{◌≡◌, ◌↔◌, ◌<◌, ◌+◌, ◌*◌, ◌/◌, ◌%◌, ◌^◌, ◌==◌, ℕ, zero, suc, List, [], ◌∷◌, length, Contains, true, None, Ok, Err, refl}
use Rattle.std.proofs.Common.{ap, sym, arith, ◌∙◌}
use Rattle.std.proofs.lemmas.Bool.{eqb-true, eq-eqb}
use Rattle.std.proofs.lemmas.List.FromFn.{get_or-range_with_len}
use Rattle.std.proofs.lemmas.Nat.{pow_pos}
use Rattle.std.proofs.lemmas.Nat.Bits.{and_pow}
use Rattle.acpi_resources.specs.Current.{all_numbers, current_of}
use Rattle.acpi_resources.specs.FlagByte.{has_bit}
use Rattle.acpi_resources.specs.Items.{items_of}
use Rattle.acpi_resources.specs.Numbers.{numbers_of_mask, numbers_of_table, set_of}
use Rattle.acpi_resources.specs.Offers.{offered, possible_as}
use Rattle.acpi_resources.specs.declared.exclusives.Exclusives.{Exclusives}
use Rattle.acpi_resources.proofs.Members.{members_of_set}
use Rattle.ar_space.specs.declared.refusal.Refusal.{Refusal}
use Rattle.machine_laws.proofs.ItemsTold.{bound_on, bound_off}
use Rattle.machine_laws.proofs.OffersTold.{set_ascends}
use Rattle.machine_laws.proofs.OneOfList.{passed_from, passed_has}

-- ---- templates

pub template_offers : (exclusives : Exclusives) (bytes : List ℕ) → possible_as exclusives bytes ≡ offered exclusives None (items_of bytes)
unfolding possible_as
template_offers exclusives bytes = refl

pub template_set : (bytes numbers : List ℕ) → all_numbers (items_of bytes) ≡ Ok numbers → (set : List ℕ) × ((current_of bytes ≡ Ok set) × (IsStrictlyIncreasing set × ((n : ℕ) → Contains set n ↔ Contains numbers n)))
unfolding current_of
template_set bytes numbers is = (set_of numbers, (bound_on _ numbers (λ ns. Ok (set_of ns)) is, (set_ascends numbers, members_of_set numbers)))

pub template_refused : (bytes : List ℕ) (e : Refusal) → all_numbers (items_of bytes) ≡ Err e → current_of bytes ≡ Err e
unfolding current_of
template_refused bytes e is = bound_off _ e (λ ns. Ok (set_of ns)) is

-- ---- bits

module _ (mask n : ℕ) where
  bit_by : (b : ℕ) → b < 2 → b * 2 ^ n ≡ 2 ^ n → b ≡ 1
  bit_by zero small e = absurd (let p = pow_pos n in omega (arith, p, e))
  bit_by (suc zero) small e = refl
  bit_by (suc (suc b)) small e = absurd (omega (arith, small))

  bit_so : has_bit mask n ≡ true → mask / 2 ^ n % 2 ≡ 1
  bit_so e = bit_by (mask / 2 ^ n % 2) (omega arith) (sym (and_pow mask n) ∙ eqb-true (bit_and mask (2 ^ n)) (2 ^ n) e)

  bit_is : mask / 2 ^ n % 2 ≡ 1 → has_bit mask n ≡ true
  bit_is e = ap (λ x. x == 2 ^ n) (and_pow mask n ∙ ap (λ b. b * 2 ^ n) e) ∙ eq-eqb (1 * 2 ^ n) (2 ^ n) (omega arith)

-- ---- masks

in_range : (n : ℕ) → Contains (range_with_len 0 16) n → n < 16
in_range n c = let e = get_or-range_with_len 0 16 c.0 n c.1 in let h = c.1 in let is = c.2 in omega (arith, e, h, is)

pub mask_numbers : (mask n : ℕ) → Contains (numbers_of_mask mask) n ↔ ((n < 16) × (mask / 2 ^ n % 2 ≡ 1))
unfolding numbers_of_mask
mask_numbers mask n = (
  λ c. (let h = passed_from (λ k. has_bit mask k) (range_with_len 0 16) n c in (in_range n h.0, bit_so mask n h.1)),
  λ h. passed_has (λ k. has_bit mask k) (range_with_len 0 16) n (n, h.0, get_or-range_with_len 0 16 n n h.0 ∙ (let same : 0 + n ≡ n = omega arith in same)) (bit_is mask n h.1),
)

-- ---- tables

pub table_numbers : (a b c d : ℕ) (bytes : List ℕ) → numbers_of_table (a ∷ b ∷ c ∷ d ∷ bytes) ≡ (a + 256 * b + 65536 * c + 16777216 * d) ∷ numbers_of_table bytes
unfolding numbers_of_table
table_numbers a b c d bytes = ap (λ (x : ℕ). x ∷ numbers_of_table bytes) (omega arith)

pub no_number_left : (bytes : List ℕ) → length bytes < 4 → numbers_of_table bytes ≡ []
unfolding numbers_of_table
no_number_left [] few = refl
no_number_left (a ∷ []) few = refl
no_number_left (a ∷ b ∷ []) few = refl
no_number_left (a ∷ b ∷ c ∷ []) few = refl
no_number_left (a ∷ b ∷ c ∷ d ∷ bytes) few = absurd (omega (arith, few))
