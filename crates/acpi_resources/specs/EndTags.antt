-- What stands before the end tag of resource items (ACPI 6.5, 6.4.2.9).
use Rattle.std.specs.Prelude.{ℕ, ◌+◌, ◌==◌, if◌then◌else◌, List, [], ◌∷◌, length, Option, Some, None}
use Rattle.std.specs.Option.{option_map}
use Rattle.std.specs.Int.RustNames.{bit_and}
use Rattle.acpi_resources.specs.Items.{ResourceItem}

-- how many bytes an item takes: a small one has one byte before its body, a large one three
abbrev pub item_length : ResourceItem → ℕ
item_length item = (if bit_and item.tag 0x80 == 0 then 1 else 3) + length item.body

-- how many bytes stand before the end tag, where there is one
unfoldable pub length_before_end : List ResourceItem → Option ℕ
length_before_end [] = None
length_before_end (item ∷ items) = if item.tag == 0x79 then Some 0 else option_map (λ n. item_length item + n) (length_before_end items)
