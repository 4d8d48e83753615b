-- An item, written as bytes, is read back.
use Rattle.std.proofs.Common.{◌≡◌, ◌==◌, ℕ, ◌+◌, ◌*◌, ◌<◌, Bool, true, false, if◌then◌else◌, nat_le, List, [], ◌∷◌, ◌++◌, length, take, drop, Option, Some, None, refl, sym, ap, ◌∙◌, arith, length-append}
use Rattle.std.specs.Int.RustNames.{bit_and}
use Rattle.std.proofs.lemmas.Bool.Decides.{nat_tests}
use Rattle.std.proofs.Math.Seq.{drop-append_seam}
use Rattle.byteorder.specs.Endian.{little_bytes, little_number}
use Rattle.byteorder.specs.Numbers.{little_number-reads_back}
use Rattle.acpi_resources.specs.Items.{ResourceItem, IsItem, item_bytes, with_body, large_item, first_item, items_of}
use Rattle.acpi_resources.proofs.Splitting.{items_of_some}

take-append_seam : (xs ys : List ℕ) → take (length xs) (xs ++ ys) ≡ xs
take-append_seam [] ys = refl
take-append_seam (x ∷ xs) ys = ap (λ rest. x ∷ rest) (take-append_seam xs ys)

has_body : (xs ys : List ℕ) → nat_le (length xs) (length (xs ++ ys)) ≡ true
has_body xs ys = let h = length-append xs ys in grind (arith, nat_tests)

with_whole_body : (tag count : ℕ) (body rest : List ℕ) → count ≡ length body → with_body tag count (body ++ rest) ≡ Some (record { tag = tag; body = body }, rest)
unfolding with_body
with_whole_body tag count body rest e =
    let F : Bool → List ℕ → List ℕ → Option (ResourceItem × List ℕ) = λ b front back. if b then Some (record { tag = tag; body = front }, back) else None in
    ap (λ n. F (nat_le n (length (body ++ rest))) (take n (body ++ rest)) (drop n (body ++ rest))) e
    ∙ ap (λ b. F b (take (length body) (body ++ rest)) (drop (length body) (body ++ rest))) (has_body body rest)
    ∙ ap (λ front. F true front (drop (length body) (body ++ rest))) (take-append_seam body rest)
    ∙ ap (λ back. F true body back) (drop-append_seam body rest)

large_length : (n : ℕ) → n < 0x10000 → (a b : ℕ) → little_bytes 2 n ≡ a ∷ b ∷ [] → a + b * 0x100 ≡ n
large_length n h a b e =
    let back : little_number 2 (a ∷ b ∷ []) ≡ n = ap (λ bytes. little_number 2 bytes) (sym e) ∙ little_number-reads_back 2 n [] h in
    omega (arith, back)

spelled : (item : ResourceItem) (rest : List ℕ) → IsItem item → (b : Bool) → (bit_and item.tag 0x80 == 0) ≡ b → first_item ((if b then item.tag ∷ item.body else item.tag ∷ (little_bytes 2 (length item.body) ++ item.body)) ++ rest) ≡ Some (item, rest)
unfolding first_item large_item
spelled item rest sound true e =
    let small : bit_and item.tag 0x80 ≡ 0 = grind (arith, nat_tests) in
    ap (λ b. if b then with_body item.tag (bit_and item.tag 0x07) (item.body ++ rest) else large_item item.tag (item.body ++ rest)) e
    ∙ with_whole_body item.tag (bit_and item.tag 0x07) item.body rest (sym (sound.small small))
spelled item rest sound false e =
    ap (λ b. if b then with_body item.tag (bit_and item.tag 0x07) (little_bytes 2 (length item.body) ++ item.body ++ rest) else large_item item.tag (little_bytes 2 (length item.body) ++ item.body ++ rest)) e
    ∙ with_whole_body item.tag _ item.body rest (large_length (length item.body) sound.large _ _ refl)

pub items_of_spelled : (item : ResourceItem) (rest : List ℕ) → IsItem item → items_of (item_bytes item ++ rest) ≡ item ∷ items_of rest
unfolding item_bytes
items_of_spelled item rest sound =
    items_of_some (item_bytes item ++ rest) item rest (spelled item rest sound (bit_and item.tag 0x80 == 0) refl)
