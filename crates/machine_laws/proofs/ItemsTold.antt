-- What items mean, by their first bytes.
use Rattle.std.specs.Prelude.{◌≡◌, ◌<◌, ◌≤◌, ◌+◌, ◌*◌, ◌==◌, ℕ, zero, suc, List, [], ◌∷◌, ◌++◌, length, take, true, false, nat_le, nat_lt, Option, Some, None, Ok, Err, refl}
use Rattle.std.proofs.Common.{ap, sym, subst, ◌∙◌, arith, length-append}
use Rattle.std.proofs.lemmas.Bool.{ne_eqb}
use Rattle.std.proofs.lemmas.Bool.Decides.{nat_tests}
use Rattle.ar_space.specs.Outcome.{Outcome}
use Rattle.ar_space.specs.Outcome as outcomes
use Rattle.ar_space.specs.declared.refusal.Refusal.{Refusal}
use Rattle.ar_space.specs.declared.refusal.Refusal.TheVariants.{Resource}
use Rattle.ar_space.specs.declared.refusal.ResourceFault.TheVariants as fault
use Rattle.acpi_resources.specs.declared.exclusives.Exclusives.{Exclusives}
use Rattle.acpi_resources.specs.declared.form.Form.TheVariants.{Small}
use Rattle.acpi_resources.specs.Current.{numbers_from, all_numbers}
use Rattle.acpi_resources.specs.Descriptors.{extended_interrupt_descriptor, descriptor_of}
use Rattle.acpi_resources.specs.Items.{ResourceItem}
use Rattle.acpi_resources.specs.Numbers.{numbers_of_mask}
use Rattle.acpi_resources.specs.Offers.{offer_of, the_offer, offered_from, offered}
use Rattle.acpi_resources.specs.Records.{InterruptDescriptor, InterruptOffer}
use Rattle.machine_laws.specs.InterruptItems.{item_of, interrupts_of, IsInterrupts, irq_without_flags, irq, extended, sourced, IsShort, no_flags, no_count, no_numbers, IsDependent, start, start_with_priority, end, HasMeaning, without_flags, with_flags, extended_interrupt, end_tag, dependent}

pub bound_on : {A B : Type 0} (x : Outcome A) (a : A) (k : A → Outcome B) → x ≡ Ok a → outcomes.◌>>=◌ x k ≡ k a
unfolding outcomes.◌>>=◌
bound_on x a k is = rw is refl

pub bound_off : {A B : Type 0} (x : Outcome A) (e : Refusal) (k : A → Outcome B) → x ≡ Err e → outcomes.◌>>=◌ x k ≡ Err e
unfolding outcomes.◌>>=◌
bound_off x e k is = rw is refl

-- ---- sizes

all_taken : (n : ℕ) (xs : List ℕ) → length xs ≡ n → take n xs ≡ xs
all_taken zero [] at = refl
all_taken (suc n) [] at = absurd (omega arith)
all_taken zero (x ∷ xs) at = absurd (omega arith)
all_taken (suc n) (x ∷ xs) at = ap (λ (l : List ℕ). x ∷ l) (all_taken n xs (omega arith))

front_taken : (n : ℕ) (xs ys : List ℕ) → length xs ≡ n → take n (xs ++ ys) ≡ xs
front_taken zero [] ys at = refl
front_taken (suc n) [] ys at = absurd (omega arith)
front_taken zero (x ∷ xs) ys at = absurd (omega arith)
front_taken (suc n) (x ∷ xs) ys at = ap (λ (l : List ℕ). x ∷ l) (front_taken n xs ys (omega arith))

is_within : (n k : ℕ) → n ≤ k → nat_le n k ≡ true
is_within n k within = grind (arith, nat_tests)

is_past : (n k : ℕ) → k < n → nat_le n k ≡ false
is_past n k past = grind (arith, nat_tests)

is_below : (n k : ℕ) → n < k → nat_lt n k ≡ true
is_below n k below = grind (arith, nat_tests)

is_not_below : (n k : ℕ) → k ≤ n → nat_lt n k ≡ false
is_not_below n k above = grind (arith, nat_tests)

module _ (count : ℕ) (numbers : List ℕ) (is : length numbers ≡ 4 * count) where
  exact : nat_le (4 * count) (length numbers) ≡ true
  exact = is_within (4 * count) (length numbers) (omega (arith, is))

  no_more : nat_lt (4 * count) (length numbers) ≡ false
  no_more = is_not_below (4 * count) (length numbers) (omega (arith, is))

  module _ (first : ℕ) (source : List ℕ) where
    all_bytes : length (numbers ++ first ∷ source) ≡ 4 * count + suc (length source)
    all_bytes = length-append numbers (first ∷ source) ∙ ap (λ (n : ℕ). n + suc (length source)) is

    enough : nat_le (4 * count) (length (numbers ++ first ∷ source)) ≡ true
    enough = is_within (4 * count) (length (numbers ++ first ∷ source)) (omega (arith, all_bytes))

    more : nat_lt (4 * count) (length (numbers ++ first ∷ source)) ≡ true
    more = is_below (4 * count) (length (numbers ++ first ∷ source)) (omega (arith, all_bytes))

-- ---- interrupts

-- a mask, as its two bytes are read
mask_is : (low high : ℕ) → low + 256 * high ≡ low + 256 * (high + 256 * 0)
mask_is low high = omega arith

pub interrupts_told : (exclusives : Exclusives) (item : ResourceItem) (d : InterruptDescriptor) (offer : InterruptOffer) (items : List ResourceItem) → IsInterrupts item d → offer_of exclusives d ≡ Ok offer
    → offered exclusives None (item ∷ items) ≡ offered exclusives (Some offer) items
unfolding offered offered_from the_offer descriptor_of extended_interrupt_descriptor outcomes.◌>>=◌
interrupts_told exclusives x d offer items (irq_without_flags low high) so = bound_on _ offer (λ o. offered exclusives (Some o) items) (subst (λ (m : ℕ). offer_of exclusives (interrupts_of Small 1 (numbers_of_mask m) false) ≡ Ok offer) (mask_is low high) so)
interrupts_told exclusives x d offer items (irq low high flags) so = bound_on _ offer (λ o. offered exclusives (Some o) items) (subst (λ (m : ℕ). offer_of exclusives (interrupts_of Small flags (numbers_of_mask m) false) ≡ Ok offer) (mask_is low high) so)
interrupts_told exclusives x d offer items (extended flags count numbers is) so =
    rw (exact count numbers is, no_more count numbers is, all_taken (4 * count) numbers is) (bound_on _ offer (λ o. offered exclusives (Some o) items) so)
interrupts_told exclusives x d offer items (sourced flags count first numbers source is) so =
    rw (enough count numbers is first source, more count numbers is first source, front_taken (4 * count) numbers (first ∷ source) is) (bound_on _ offer (λ o. offered exclusives (Some o) items) so)

pub refused_told : (exclusives : Exclusives) (item : ResourceItem) (d : InterruptDescriptor) (e : Refusal) (items : List ResourceItem) → IsInterrupts item d → offer_of exclusives d ≡ Err e → offered exclusives None (item ∷ items) ≡ Err e
unfolding offered offered_from the_offer descriptor_of extended_interrupt_descriptor outcomes.◌>>=◌
refused_told exclusives x d e items (irq_without_flags low high) so = bound_off _ e (λ o. offered exclusives (Some o) items) (subst (λ (m : ℕ). offer_of exclusives (interrupts_of Small 1 (numbers_of_mask m) false) ≡ Err e) (mask_is low high) so)
refused_told exclusives x d e items (irq low high flags) so = bound_off _ e (λ o. offered exclusives (Some o) items) (subst (λ (m : ℕ). offer_of exclusives (interrupts_of Small flags (numbers_of_mask m) false) ≡ Err e) (mask_is low high) so)
refused_told exclusives x d e items (extended flags count numbers is) so =
    rw (exact count numbers is, no_more count numbers is, all_taken (4 * count) numbers is) (bound_off _ e (λ o. offered exclusives (Some o) items) so)
refused_told exclusives x d e items (sourced flags count first numbers source is) so =
    rw (enough count numbers is first source, more count numbers is first source, front_taken (4 * count) numbers (first ∷ source) is) (bound_off _ e (λ o. offered exclusives (Some o) items) so)

pub several_told : (exclusives : Exclusives) (item : ResourceItem) (d : InterruptDescriptor) (offer : InterruptOffer) (items : List ResourceItem) → IsInterrupts item d → offered exclusives (Some offer) (item ∷ items) ≡ Err (Resource fault.Several)
unfolding offered offered_from the_offer descriptor_of extended_interrupt_descriptor outcomes.◌>>=◌
several_told exclusives x d offer items (irq_without_flags low high) = refl
several_told exclusives x d offer items (irq low high flags) = refl
several_told exclusives x d offer items (extended flags count numbers is) = rw (exact count numbers is) refl
several_told exclusives x d offer items (sourced flags count first numbers source is) = rw (enough count numbers is first source) refl

pub numbers_told : (item : ResourceItem) (d : InterruptDescriptor) (items : List ResourceItem) (behind : List ℕ) → IsInterrupts item d → all_numbers items ≡ Ok behind → all_numbers (item ∷ items) ≡ Ok (d.numbers ++ behind)
unfolding all_numbers numbers_from descriptor_of extended_interrupt_descriptor outcomes.◌>>=◌
numbers_told x d items behind (irq_without_flags low high) so = rw so (ap (λ (m : ℕ). Ok (numbers_of_mask m ++ behind)) (sym (mask_is low high)))
numbers_told x d items behind (irq low high flags) so = rw so (ap (λ (m : ℕ). Ok (numbers_of_mask m ++ behind)) (sym (mask_is low high)))
numbers_told x d items behind (extended flags count numbers is) so = rw (exact count numbers is, all_taken (4 * count) numbers is, so) refl
numbers_told x d items behind (sourced flags count first numbers source is) so = rw (enough count numbers is first source, front_taken (4 * count) numbers (first ∷ source) is, so) refl

pub refused_numbers_told : (item : ResourceItem) (d : InterruptDescriptor) (e : Refusal) (items : List ResourceItem) → IsInterrupts item d → all_numbers items ≡ Err e → all_numbers (item ∷ items) ≡ Err e
unfolding all_numbers numbers_from descriptor_of extended_interrupt_descriptor outcomes.◌>>=◌
refused_numbers_told x d e items (irq_without_flags low high) so = rw so refl
refused_numbers_told x d e items (irq low high flags) so = rw so refl
refused_numbers_told x d e items (extended flags count numbers is) so = rw (exact count numbers is, so) refl
refused_numbers_told x d e items (sourced flags count first numbers source is) so = rw (enough count numbers is first source, so) refl

-- ---- other items

pub short_told : (exclusives : Exclusives) (item : ResourceItem) (found : Option InterruptOffer) (items : List ResourceItem) → IsShort item → offered exclusives found (item ∷ items) ≡ Err (Resource (fault.Descriptor 0x89))
unfolding offered offered_from descriptor_of extended_interrupt_descriptor outcomes.◌>>=◌
short_told exclusives x found items no_flags = refl
short_told exclusives x found items (no_count flags) = refl
short_told exclusives x found items (no_numbers flags count bytes few) = rw (is_past (4 * count) (length bytes) few) refl

pub short_numbers_told : (item : ResourceItem) (items : List ResourceItem) → IsShort item → all_numbers (item ∷ items) ≡ Err (Resource (fault.Descriptor 0x89))
unfolding all_numbers numbers_from descriptor_of extended_interrupt_descriptor outcomes.◌>>=◌
short_numbers_told x items no_flags = refl
short_numbers_told x items (no_count flags) = refl
short_numbers_told x items (no_numbers flags count bytes few) = rw (is_past (4 * count) (length bytes) few) refl

pub end_told : (exclusives : Exclusives) (body : List ℕ) (offer : InterruptOffer) (items : List ResourceItem) → offered exclusives (Some offer) (item_of 0x79 body ∷ items) ≡ Ok offer
unfolding offered offered_from descriptor_of outcomes.◌>>=◌
end_told exclusives body offer items = refl

pub end_of_none_told : (exclusives : Exclusives) (body : List ℕ) (items : List ResourceItem) → offered exclusives None (item_of 0x79 body ∷ items) ≡ Err (Resource fault.NoInterrupt)
unfolding offered offered_from descriptor_of outcomes.◌>>=◌
end_of_none_told exclusives body items = refl

pub end_of_numbers_told : (body : List ℕ) (items : List ResourceItem) → all_numbers (item_of 0x79 body ∷ items) ≡ Ok []
unfolding all_numbers numbers_from descriptor_of outcomes.◌>>=◌
end_of_numbers_told body items = refl

pub no_end_told : (exclusives : Exclusives) (found : Option InterruptOffer) → offered exclusives found [] ≡ Err (Resource fault.NoEnd)
unfolding offered
no_end_told exclusives found = refl

pub no_end_of_numbers_told : all_numbers [] ≡ Err (Resource fault.NoEnd)
unfolding all_numbers
no_end_of_numbers_told = refl

pub dependent_told : (exclusives : Exclusives) (tag : ℕ) (body : List ℕ) (found : Option InterruptOffer) (items : List ResourceItem) → IsDependent tag → offered exclusives found (item_of tag body ∷ items) ≡ Err (Resource fault.Dependent)
unfolding offered offered_from descriptor_of outcomes.◌>>=◌
dependent_told exclusives t body found items start = refl
dependent_told exclusives t body found items start_with_priority = refl
dependent_told exclusives t body found items end = refl

pub dependent_numbers_told : (tag : ℕ) (body : List ℕ) (items : List ResourceItem) → IsDependent tag → all_numbers (item_of tag body ∷ items) ≡ all_numbers items
unfolding all_numbers numbers_from descriptor_of outcomes.◌>>=◌
dependent_numbers_told t body items start = refl
dependent_numbers_told t body items start_with_priority = refl
dependent_numbers_told t body items end = refl

-- a first byte that isn't this one
differs : (tag k : ℕ) → (HasMeaning tag → ⊥) → HasMeaning k → (tag == k) ≡ false
differs tag k none some = ne_eqb tag k (λ e. none (rw e some))

pub other_told : (exclusives : Exclusives) (tag : ℕ) (body : List ℕ) (found : Option InterruptOffer) (items : List ResourceItem) → (HasMeaning tag → ⊥) → offered exclusives found (item_of tag body ∷ items) ≡ Err (Resource (fault.Descriptor tag))
unfolding offered offered_from descriptor_of outcomes.◌>>=◌
other_told exclusives tag body found items none =
    rw (differs tag 0x22 none without_flags, differs tag 0x23 none with_flags, differs tag 0x89 none extended_interrupt, differs tag 0x79 none end_tag, differs tag 0x30 none (dependent 0x30 start), differs tag 0x31 none (dependent 0x31 start_with_priority), differs tag 0x38 none (dependent 0x38 end)) refl

pub other_numbers_told : (tag : ℕ) (body : List ℕ) (items : List ResourceItem) → (HasMeaning tag → ⊥) → all_numbers (item_of tag body ∷ items) ≡ all_numbers items
unfolding all_numbers numbers_from descriptor_of outcomes.◌>>=◌
other_numbers_told tag body items none =
    rw (differs tag 0x22 none without_flags, differs tag 0x23 none with_flags, differs tag 0x89 none extended_interrupt, differs tag 0x79 none end_tag, differs tag 0x30 none (dependent 0x30 start), differs tag 0x31 none (dependent 0x31 start_with_priority), differs tag 0x38 none (dependent 0x38 end)) refl
