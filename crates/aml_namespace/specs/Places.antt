-- Where a node is looked for first, by its parent and its segment.
use Rattle.std.specs.Prelude.{ℕ, ◌*◌, ◌/◌, ◌%◌, ◌^◌, ◌-◌, List, Bool, true, length, slice_index_or, bit_and, bit_xor}
use Rattle.std.specs.Int.{w32, w64, rotate_left, from_le_bytes}
use Rattle.aml_path.specs.declared.segment.Seg.{Seg}

unfoldable pub place_of : ℕ → Seg → ℕ
place_of parent s = (bit_xor (rotate_left w64 parent 32) (from_le_bytes w32 s.bytes) * 0x9E37_79B9_7F4A_7C15 % 2 ^ 64) / 2 ^ 32

-- whether something may be at a place: there is a mark, or there are none at all
abbrev pub may_be : List Bool → ℕ → Bool
may_be marks place = slice_index_or marks (bit_and place (length marks - 1)) true
