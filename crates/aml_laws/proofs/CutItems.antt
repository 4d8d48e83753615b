-- A resource item that is cut is no item.
use Rattle.std.specs.Prelude.{◌≡◌, ◌<◌, ◌≤◌, ◌==◌, ◌+◌, ◌*◌, ◌/◌, ◌%◌, ◌^◌, ℕ, nat_le, List, [], ◌∷◌, length, true, false, None, refl}
use Rattle.std.specs.Int.RustNames.{bit_and}
use Rattle.std.proofs.Common.{arith, ap, ◌∙◌}
use Rattle.std.proofs.lemmas.Bool.Decides.{nat_tests}
use Rattle.std.proofs.lemmas.Nat.{and_mask}
use Rattle.std.proofs.lemmas.Nat.Bits.{and_pow}
use Rattle.acpi_resources.specs.Items.{with_body, large_item, first_item, items_of}
use Rattle.acpi_resources.proofs.Splitting.{items_of_none}

small_tag : (tag : ℕ) → tag < 128 → (bit_and tag 0x80 == 0) ≡ true
small_tag tag small =
    let clear : tag / 2 ^ 7 % 2 ≡ 0 = omega arith in
    ap (λ (x : ℕ). x == 0) (and_pow tag 7 ∙ ap (λ (b : ℕ). b * 2 ^ 7) clear)

large_tag : (tag : ℕ) → 128 ≤ tag → tag < 256 → (bit_and tag 0x80 == 0) ≡ false
large_tag tag most few =
    let set : tag / 2 ^ 7 % 2 ≡ 1 = omega arith in
    ap (λ (x : ℕ). x == 0) (and_pow tag 7 ∙ ap (λ (b : ℕ). b * 2 ^ 7) set)

cut : (tag count : ℕ) (bytes : List ℕ) → length bytes < count → with_body tag count bytes ≡ None
unfolding with_body
cut tag count bytes short = rw (fewer count (length bytes) short) refl
  where
    fewer : (n k : ℕ) → k < n → nat_le n k ≡ false
    fewer n k less = grind (arith, nat_tests)

small_is_none : (tag : ℕ) (bytes : List ℕ) → tag < 128 → length bytes < bit_and tag 0x07 → first_item (tag ∷ bytes) ≡ None
unfolding first_item
small_is_none tag bytes small short = rw (small_tag tag small) (cut tag (bit_and tag 0x07) bytes short)

pub small_cut : (tag : ℕ) (bytes : List ℕ) → tag < 128 → length bytes < tag % 8 → items_of (tag ∷ bytes) ≡ []
small_cut tag bytes small short = let lacks : length bytes < bit_and tag 0x07 = rw (and_mask tag 3) short in items_of_none (tag ∷ bytes) (small_is_none tag bytes small lacks)

large_is_none : (tag : ℕ) (bytes : List ℕ) → 128 ≤ tag → tag < 256 → large_item tag bytes ≡ None → first_item (tag ∷ bytes) ≡ None
unfolding first_item
large_is_none tag bytes most few none = rw (large_tag tag most few) none

without_body : (tag low high : ℕ) (bytes : List ℕ) → length bytes < low + high * 0x100 → large_item tag (low ∷ high ∷ bytes) ≡ None
unfolding large_item
without_body tag low high bytes short = cut tag (low + high * 0x100) bytes short

pub large_cut : (tag low high : ℕ) (bytes : List ℕ) → 128 ≤ tag → tag < 256 → length bytes < low + 256 * high → items_of (tag ∷ low ∷ high ∷ bytes) ≡ []
large_cut tag low high bytes most few short =
    let lacks : length bytes < low + high * 0x100 = omega arith in
    items_of_none (tag ∷ low ∷ high ∷ bytes) (large_is_none tag (low ∷ high ∷ bytes) most few (without_body tag low high bytes lacks))

without_length : (tag : ℕ) (bytes : List ℕ) → length bytes < 2 → large_item tag bytes ≡ None
unfolding large_item
without_length tag [] short = refl
without_length tag (low ∷ []) short = refl
without_length tag (low ∷ high ∷ bytes) short = absurd (omega arith)

pub length_cut : (tag : ℕ) (bytes : List ℕ) → 128 ≤ tag → tag < 256 → length bytes < 2 → items_of (tag ∷ bytes) ≡ []
length_cut tag bytes most few short = items_of_none (tag ∷ bytes) (large_is_none tag bytes most few (without_length tag bytes short))
