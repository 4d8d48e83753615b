-- How many numbers a mask, a table and a set have, and how large they are.
use Rattle.std.proofs.Common.{◌≡◌, ◌==◌, ℕ, suc, ◌+◌, ◌*◌, ◌<◌, ◌≤◌, Bool, true, false, if◌then◌else◌, List, [], ◌∷◌, filter, length, All, sym, ◌∙◌, subst, arith, Ordering}
use Rattle.std.specs.Ordering.{nat_cmp, match_ordering}
use Rattle.std.specs.declared.cmp.Ordering.TheVariants.{Less, Equal, Greater}
use Rattle.std.specs.List.{range_with_len}
use Rattle.std.specs.BTreeSet.{insert_key}
use Rattle.std.proofs.lemmas.List.Elements.{All-filter}
use Rattle.std.proofs.lemmas.List.FromFn.{get_or-range_with_len}
use Rattle.std.proofs.lemmas.Map.Views.{All-insert_key}
use Rattle.acpi_resources.specs.declared.form.Form.TheVariants.{Extended}
use Rattle.acpi_resources.specs.FlagByte.{has_bit, is_edge, polarity_of}
use Rattle.std.proofs.lemmas.Bool.Decides.{nat_tests}
use Rattle.std.specs.List.Sorted.{IsStrictlyIncreasing}
use Rattle.acpi_resources.specs.Numbers.{numbers_of_mask, numbers_of_table, with_numbers, set_of}
use Rattle.acpi_resources.specs.Records.{InterruptDescriptor, InterruptOffer}
use Rattle.acpi_resources.specs.Sound.{IsInterruptDescriptor, IsOffer}

length-filter-le : (p : ℕ → Bool) (xs : List ℕ) → length (filter p xs) ≤ length xs
length-filter-le p [] = omega arith
length-filter-le p (x ∷ xs) =
    let rest = length-filter-le p xs in
    elim (p x) as (λ b. length (if b then x ∷ filter p xs else filter p xs) ≤ length (x ∷ xs)) [ true ↦ omega arith | false ↦ omega arith ]

pub length-numbers_of_mask : (mask : ℕ) → length (numbers_of_mask mask) ≤ 16
unfolding numbers_of_mask
length-numbers_of_mask mask = length-filter-le (λ n. has_bit mask n) (range_with_len 0 16)

pub All-numbers_of_mask : (mask : ℕ) → All (λ n. n < 16) (numbers_of_mask mask)
unfolding numbers_of_mask
All-numbers_of_mask mask =
    All-filter (λ n. has_bit mask n) (λ n. n < 16) (range_with_len 0 16)
    (λ k d h. let e = get_or-range_with_len 0 16 k d h in omega (arith, e, h))

length-numbers_of_table : (bytes : List ℕ) → 4 * length (numbers_of_table bytes) ≤ length bytes
unfolding numbers_of_table
length-numbers_of_table (a ∷ b ∷ c ∷ d ∷ bytes) = omega (arith, length-numbers_of_table bytes)
length-numbers_of_table (a ∷ b ∷ c ∷ []) = omega arith
length-numbers_of_table (a ∷ b ∷ []) = omega arith
length-numbers_of_table (a ∷ []) = omega arith
length-numbers_of_table [] = omega arith

pub length-table_of : (bytes : List ℕ) (count : ℕ) → length bytes ≤ 4 * count → length (numbers_of_table bytes) ≤ count
length-table_of bytes count h = omega (arith, length-numbers_of_table bytes)

-- an insertion makes a set longer by one at most
length-insert_key : (set : List ℕ) (n : ℕ) → length (insert_key nat_cmp set n) ≤ length set + 1
length-insert_key [] n = omega arith
length-insert_key (x ∷ set) n =
    let rest = length-insert_key set n in
    elim (nat_cmp n x) as (λ (o : Ordering). length (match_ordering o (n ∷ x ∷ set) (x ∷ set) (x ∷ insert_key nat_cmp set n)) ≤ length (x ∷ set) + 1) [
      | Less ↦ omega arith
      | Equal ↦ omega arith
      | Greater ↦ omega arith
    ]

length-with_numbers : (set numbers : List ℕ) → length (with_numbers set numbers) ≤ length set + length numbers
unfolding with_numbers
length-with_numbers set [] = omega arith
length-with_numbers set (n ∷ numbers) =
    let rest = length-with_numbers (insert_key nat_cmp set n) numbers in
    let first = length-insert_key set n in
    omega arith

pub length-set_of : (numbers : List ℕ) → length (set_of numbers) ≤ length numbers
length-set_of numbers = omega (arith, length-with_numbers [] numbers)

All-with_numbers : (P : ℕ → Type 0) (set numbers : List ℕ) → All P set → All P numbers → All P (with_numbers set numbers)
unfolding with_numbers
All-with_numbers P set [] h k = h
All-with_numbers P set (n ∷ numbers) h k =
    All-with_numbers P (insert_key nat_cmp set n) numbers
    (All-insert_key nat_cmp n P set h (k 0 n (omega arith)))
    (λ i d small. k (suc i) d (omega arith))

pub All-set_of : (P : ℕ → Type 0) (numbers : List ℕ) → All P numbers → All P (set_of numbers)
All-set_of P numbers h = All-with_numbers P [] numbers (λ k d small. absurd (omega arith)) h

pub mask_is_sound : (mask : ℕ) (d : InterruptDescriptor) → d.numbers ≡ numbers_of_mask mask → IsInterruptDescriptor d
mask_is_sound mask d e = record {
  at_most = rw e (omega (arith, length-numbers_of_mask mask));
  in_mask = λ _. subst (All (λ n. n < 16)) (sym e) (All-numbers_of_mask mask);
}

pub table_is_sound : (bytes : List ℕ) (count : ℕ) (d : InterruptDescriptor) → d.form ≡ Extended → d.numbers ≡ numbers_of_table bytes → length bytes ≤ 4 * count → count < 256 → IsInterruptDescriptor d
table_is_sound bytes count d extended e h k = record {
  at_most = rw e (omega (arith, length-table_of bytes count h));
  in_mask = λ small. absurd (cc (small, extended));
}

-- what an interrupt descriptor offers is sound
pub offer_is_sound : (d : InterruptDescriptor) (offer : InterruptOffer) → IsInterruptDescriptor d → offer.form ≡ d.form → offer.numbers ≡ set_of d.numbers → IsStrictlyIncreasing offer.numbers → (length offer.numbers == 0) ≡ false → is_edge offer.form offer.flags ≡ false → offer.polarity ≡ polarity_of offer.form offer.flags → IsOffer offer
offer_is_sound d offer sound form numbers ascending some level signaled = record {
  at_least = grind (arith, nat_tests);
  at_most = let h = length-set_of d.numbers in let k = sound.at_most in rw numbers (omega arith);
  ascending = ascending;
  in_mask = λ small. subst (All (λ n. n < 16)) (sym numbers) (All-set_of (λ n. n < 16) d.numbers (sound.in_mask (sym form ∙ small)));
  level = level;
  signaled = signaled;
}
