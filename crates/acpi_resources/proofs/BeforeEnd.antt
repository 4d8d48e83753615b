-- How many bytes stand before the end tag, item by item.
use Rattle.std.proofs.Common.{◌≡◌, ℕ, suc, ◌+◌, ◌-◌, ◌*◌, ◌≤◌, ◌==◌, true, false, Bool, if◌then◌else◌, nat_le, List, [], ◌∷◌, length, take, drop, Option, Some, None, refl, ap, sym, ◌∙◌, arith, length-append, take-append-drop, subst}
use Rattle.std.specs.Option.{option_map}
use Rattle.std.specs.Int.RustNames.{bit_and}
use Rattle.acpi_resources.specs.Items.{ResourceItem, with_body, large_item, first_item, items_of}
use Rattle.acpi_resources.specs.EndTags.{item_length, length_before_end}
use Rattle.acpi_resources.proofs.Splitting.{items_of_none, items_of_some}

-- an item with this tag, behind a front of so many bytes
abbrev IsSplit : ℕ → ℕ → List ℕ → Option (ResourceItem × List ℕ) → Type 0
IsSplit front tag bytes None = Unit {0}
IsSplit front tag bytes (Some found) = (found.0.tag ≡ tag) × (front + length bytes ≡ front + length found.0.body + length found.1)

parts : (count : ℕ) (bytes : List ℕ) → length bytes ≡ length (take count bytes) + length (drop count bytes)
parts count bytes = sym (ap length (take-append-drop count bytes)) ∙ length-append (take count bytes) (drop count bytes)

with_body-split : (front tag count : ℕ) (bytes : List ℕ) → IsSplit front tag bytes (with_body tag count bytes)
unfolding with_body
with_body-split front tag count bytes =
    elim (nat_le count (length bytes)) as (λ b. IsSplit front tag bytes (if b then Some (record { tag = tag; body = take count bytes }, drop count bytes) else None)) [
      | true ↦ (refl, omega (arith, parts count bytes))
      | false ↦ tt
    ]

-- an item of so many bytes in all
abbrev Takes : ℕ → ℕ → List ℕ → Option (ResourceItem × List ℕ) → Type 0
Takes front tag bytes None = Unit {0}
Takes front tag bytes (Some found) = (found.0.tag ≡ tag) × (length bytes ≡ front + length found.0.body + length found.1)

large_item-takes : (tag : ℕ) (bytes : List ℕ) → Takes 2 tag bytes (large_item tag bytes)
unfolding large_item
large_item-takes tag (low ∷ high ∷ bytes) = by_found (with_body tag (low + high * 0x100) bytes) (with_body-split 0 tag (low + high * 0x100) bytes) where
  by_found : (o : Option (ResourceItem × List ℕ)) → IsSplit 0 tag bytes o → Takes 2 tag (low ∷ high ∷ bytes) o
  by_found None h = tt
  by_found (Some found) h = (h.0, omega (arith, h.1))
large_item-takes tag (low ∷ []) = tt
large_item-takes tag [] = tt

small_item-takes : (tag : ℕ) (bytes : List ℕ) → Takes 0 tag bytes (with_body tag (bit_and tag 0x07) bytes)
small_item-takes tag bytes = by_found (with_body tag (bit_and tag 0x07) bytes) (with_body-split 0 tag (bit_and tag 0x07) bytes) where
  by_found : (o : Option (ResourceItem × List ℕ)) → IsSplit 0 tag bytes o → Takes 0 tag bytes o
  by_found None h = tt
  by_found (Some found) h = (h.0, omega (arith, h.1))

by_tag : (b : Bool) (tag : ℕ) (bytes : List ℕ) (found : ResourceItem × List ℕ) → (if b then with_body tag (bit_and tag 0x07) bytes else large_item tag bytes) ≡ Some found → (found.0.tag ≡ tag) × (suc (length bytes) ≡ (if b then 1 else 3) + length found.0.body + length found.1)
by_tag true tag bytes found e = let h = subst (Takes 0 tag bytes) e (small_item-takes tag bytes) in (h.0, omega (arith, h.1))
by_tag false tag bytes found e = let h = subst (Takes 2 tag bytes) e (large_item-takes tag bytes) in (h.0, omega (arith, h.1))

pub first_length : (bytes : List ℕ) (item : ResourceItem) (rest : List ℕ) → first_item bytes ≡ Some (item, rest) → length bytes ≡ item_length item + length rest
unfolding first_item
first_length [] item rest e = absurd (cc e)
first_length (tag ∷ bytes) item rest e = let h = by_tag (bit_and tag 0x80 == 0) tag bytes (item, rest) e in rw h.0 h.1

one_at_least : (b : Bool) → 1 ≤ (if b then 1 else 3)
one_at_least true = omega arith
one_at_least false = omega arith

pub shorter : (bytes : List ℕ) (item : ResourceItem) (rest : List ℕ) → first_item bytes ≡ Some (item, rest) → suc (length rest) ≤ length bytes
shorter bytes item rest e = omega (arith, first_length bytes item rest e, one_at_least (bit_and item.tag 0x80 == 0))

-- an end tag has one byte behind its first
pub end_tag_length : (bytes : List ℕ) (item : ResourceItem) (rest : List ℕ) → first_item bytes ≡ Some (item, rest) → item.tag ≡ 0x79 → length item.body ≡ 1 → length bytes ≡ 2 + length rest
end_tag_length bytes item rest e is body =
    let front : ◌≡◌ {A = ℕ} (if bit_and item.tag 0x80 == 0 then 1 else 3) 1 = rw is refl in
    omega (arith, first_length bytes item rest e, front, body)

added : (o : Option ℕ) (a b c : ℕ) → a + b ≡ c → option_map (λ n. a + n) (option_map (λ n. b + n) o) ≡ option_map (λ n. c + n) o
added None a b c e = refl
added (Some n) a b c e = ap Some (omega arith)

-- what is left to count, added to what is counted
abbrev pub counted : List ℕ → List ℕ → Option ℕ
counted all rest = option_map (λ n. length all - length rest + n) (length_before_end (items_of rest))

itself : (o : Option ℕ) (k : ℕ) → k ≡ 0 → o ≡ option_map (λ n. k + n) o
itself None k e = refl
itself (Some n) k e = ap Some (omega arith)

pub at_start : (all : List ℕ) → length_before_end (items_of all) ≡ counted all all
at_start all = itself (length_before_end (items_of all)) (length all - length all) (omega arith)

pub none_left : (all rest : List ℕ) → first_item rest ≡ None → counted all rest ≡ None
unfolding length_before_end
none_left all rest e = ap (λ items. option_map (λ n. length all - length rest + n) (length_before_end items)) (items_of_none rest e)

pub at_end_tag : (all rest behind : List ℕ) (item : ResourceItem) → first_item rest ≡ Some (item, behind) → (item.tag == 0x79) ≡ true → counted all rest ≡ Some (length all - length rest)
unfolding length_before_end
at_end_tag all rest behind item e is =
    ap (λ items. option_map (λ n. length all - length rest + n) (length_before_end items)) (items_of_some rest item behind e)
    ∙ rw is (ap Some (omega arith))

pub at_item : (all rest behind : List ℕ) (item : ResourceItem) → length rest ≤ length all → first_item rest ≡ Some (item, behind) → (item.tag == 0x79) ≡ false → counted all rest ≡ counted all behind
unfolding length_before_end
at_item all rest behind item le e is =
    ap (λ items. option_map (λ n. length all - length rest + n) (length_before_end items)) (items_of_some rest item behind e)
    ∙ rw is (added (length_before_end (items_of behind)) (length all - length rest) (item_length item) (length all - length behind) (omega (arith, first_length rest item behind e)))
