-- Lists of resource items (ACPI 6.5, 6.4.2.9).
use Rattle.std.specs.Prelude.{◌≡◌, ◌==◌, ◌+◌, ℕ, true, if◌then◌else◌, List, [], ◌∷◌, length}
use Rattle.std.specs.Int.RustNames.{bit_and}
use Rattle.acpi_resources.specs.Items.{ResourceItem}

-- those before the first end tag, or all where there is none
abbrev pub before_end_tag : List ResourceItem → List ResourceItem
before_end_tag [] = []
before_end_tag (item ∷ items) = if item.tag == 0x79 then [] else item ∷ before_end_tag items

-- an end tag whose checksum is 0, which stands for any
abbrev pub end_tag : ResourceItem
end_tag = record { tag = 0x79; body = 0x00 ∷ [] }

-- an end tag stands among them
pub data HasEndTag : List ResourceItem → Type 0 where
  here : (item : ResourceItem) (items : List ResourceItem) → (item.tag == 0x79) ≡ true → HasEndTag (item ∷ items)
  later : (item : ResourceItem) (items : List ResourceItem) → HasEndTag items → HasEndTag (item ∷ items)

-- how many bytes the items take: a small one has one byte before its body, a large one three
abbrev pub bytes_taken : List ResourceItem → ℕ
bytes_taken [] = 0
bytes_taken (item ∷ items) = (if bit_and item.tag 0x80 == 0 then 1 else 3) + length item.body + bytes_taken items
