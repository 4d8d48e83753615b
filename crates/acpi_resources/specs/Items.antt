-- Resource items (ACPI 6.5, 6.4.2 and 6.4.3): a list of bytes as the list of the items that it is made of.
use Rattle.std.specs.Prelude.{◌≡◌, ◌==◌, ℕ, zero, suc, ◌+◌, ◌*◌, ◌<◌, nat_le, if◌then◌else◌, List, [], ◌∷◌, ◌++◌, length, take, drop, Option, Some, None}
use Rattle.std.specs.Int.RustNames.{bit_and}
use Rattle.byteorder.specs.Endian.{little_bytes}

-- an item: its first byte, and the bytes that its length counts
pub record ResourceItem : Type 0 where
  pub tag : ℕ
  pub body : List ℕ

-- an item whose body is the first `count` of the bytes, and the bytes behind it
unfoldable pub with_body : ℕ → ℕ → List ℕ → Option (ResourceItem × List ℕ)
with_body tag count bytes =
    if nat_le count (length bytes)
    then Some (record { tag = tag; body = take count bytes }, drop count bytes)
    else None

-- a large item has its length in the two bytes behind the first, the lower one first
unfoldable pub large_item : ℕ → List ℕ → Option (ResourceItem × List ℕ)
large_item tag (low ∷ high ∷ bytes) = with_body tag (low + high * 0x100) bytes
large_item tag (low ∷ []) = None
large_item tag [] = None

-- the item that the bytes begin with, and the bytes behind it, where the item doesn't end past them.
-- A small item has bit 7 of its first byte clear, and its length in bits 2 to 0.
unfoldable pub first_item : List ℕ → Option (ResourceItem × List ℕ)
first_item [] = None
first_item (tag ∷ bytes) =
    if bit_and tag 0x80 == 0 then with_body tag (bit_and tag 0x07) bytes else large_item tag bytes

-- an item and then those of the bytes behind it, or none
abbrev pub item_and : (List ℕ → List ResourceItem) → Option (ResourceItem × List ℕ) → List ResourceItem
item_and items_behind None = []
item_and items_behind (Some found) = found.0 ∷ items_behind found.1

-- at most so many items, of those that the bytes begin with
unfoldable pub items_within : ℕ → List ℕ → List ResourceItem
items_within zero bytes = []
items_within (suc n) bytes = item_and (λ rest. items_within n rest) (first_item bytes)

-- the items that the bytes begin with, up to one that ends past them: each item has a byte at least
unfoldable pub items_of : List ℕ → List ResourceItem
items_of bytes = items_within (length bytes) bytes

-- what an item's length can count: bits 2 to 0 of a small item's first byte, and two bytes
pub record IsItem (item : ResourceItem) : Type 0 where
  pub small : bit_and item.tag 0x80 ≡ 0 → length item.body ≡ bit_and item.tag 0x07
  pub large : length item.body < 0x10000

-- an item as bytes
unfoldable pub item_bytes : ResourceItem → List ℕ
item_bytes item =
    if bit_and item.tag 0x80 == 0
    then item.tag ∷ item.body
    else item.tag ∷ (little_bytes 2 (length item.body) ++ item.body)
