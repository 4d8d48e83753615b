-- Taking the first item off a list of bytes leaves the other items.
use Rattle.std.proofs.Common.{◌≡◌, ℕ, zero, suc, ◌+◌, ◌*◌, ◌≤◌, ◌==◌, true, false, if◌then◌else◌, nat_le, List, [], ◌∷◌, length, take, drop, Option, Some, None, refl, ap, ◌∙◌, arith, length-drop, subst}
use Rattle.std.specs.Int.RustNames.{bit_and}
use Rattle.acpi_resources.specs.Items.{ResourceItem, with_body, large_item, first_item, item_and, items_within, items_of}

-- what is left is no longer than so many bytes
abbrev IsLeft : ℕ → Option (ResourceItem × List ℕ) → Type 0
IsLeft n None = Unit {0}
IsLeft n (Some found) = length found.1 ≤ n

with_body-left : (tag count : ℕ) (bytes : List ℕ) (n : ℕ) → length bytes ≤ n → IsLeft n (with_body tag count bytes)
unfolding with_body
with_body-left tag count bytes n h =
    elim (nat_le count (length bytes)) as (λ b. IsLeft n (if b then Some (record { tag = tag; body = take count bytes }, drop count bytes) else None)) [
      | true ↦ omega (arith, length-drop count bytes)
      | false ↦ tt
    ]

large_item-left : (tag : ℕ) (bytes : List ℕ) (n : ℕ) → length bytes ≤ n → IsLeft n (large_item tag bytes)
unfolding large_item
large_item-left tag (low ∷ high ∷ bytes) n h = with_body-left tag (low + high * 0x100) bytes n (omega arith)
large_item-left tag (low ∷ []) n h = tt
large_item-left tag [] n h = tt

first_item-left : (tag : ℕ) (bytes : List ℕ) (n : ℕ) → length bytes ≤ n → IsLeft n (first_item (tag ∷ bytes))
unfolding first_item
first_item-left tag bytes n h =
    elim (bit_and tag 0x80 == 0) as (λ b. IsLeft n (if b then with_body tag (bit_and tag 0x07) bytes else large_item tag bytes)) [
      | true ↦ with_body-left tag (bit_and tag 0x07) bytes n h
      | false ↦ large_item-left tag bytes n h
    ]

-- two ways to go on that agree where bytes are left
same_items : (n m : ℕ) (f g : List ℕ → List ResourceItem) → ((rest : List ℕ) → length rest ≤ n → length rest ≤ m → f rest ≡ g rest) → (found : Option (ResourceItem × List ℕ)) → IsLeft n found → IsLeft m found → item_and f found ≡ item_and g found
same_items n m f g same None h k = refl
same_items n m f g same (Some found) h k = ap (λ items. found.0 ∷ items) (same found.1 h k)

-- enough is enough
items_within-enough : (n m : ℕ) (bytes : List ℕ) → length bytes ≤ n → length bytes ≤ m → items_within n bytes ≡ items_within m bytes
unfolding items_within first_item
items_within-enough zero zero bytes h k = refl
items_within-enough zero (suc m) [] h k = refl
items_within-enough zero (suc m) (x ∷ bytes) h k = absurd (omega arith)
items_within-enough (suc n) zero [] h k = refl
items_within-enough (suc n) zero (x ∷ bytes) h k = absurd (omega arith)
items_within-enough (suc n) (suc m) [] h k = refl
items_within-enough (suc n) (suc m) (x ∷ bytes) h k =
    same_items n m (λ rest. items_within n rest) (λ rest. items_within m rest) (λ rest i j. items_within-enough n m rest i j) (first_item (x ∷ bytes)) (first_item-left x bytes n (omega arith)) (first_item-left x bytes m (omega arith))

pub items_of_none : (bytes : List ℕ) → first_item bytes ≡ None → items_of bytes ≡ []
unfolding items_of items_within
items_of_none [] e = refl
items_of_none (x ∷ bytes) e = ap (item_and (λ rest. items_within (length bytes) rest)) e

pub items_of_some : (bytes : List ℕ) (item : ResourceItem) (rest : List ℕ) → first_item bytes ≡ Some (item, rest) → items_of bytes ≡ item ∷ items_of rest
unfolding items_of items_within first_item
items_of_some [] item rest e = absurd (cc e)
items_of_some (x ∷ bytes) item rest e =
    let left : length rest ≤ length bytes = subst (IsLeft (length bytes)) e (first_item-left x bytes (length bytes) (omega arith)) in
    ap (item_and (λ rest. items_within (length bytes) rest)) e
    ∙ ap (λ items. item ∷ items) (items_within-enough (length bytes) (length rest) rest left (omega arith))
