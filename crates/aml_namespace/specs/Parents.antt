-- The nodes that may have children: each has a mark, at its number modulo how many there are.
use Rattle.std.specs.Prelude.{ℕ, ◌%◌, List, Bool, false, slice_index_or}

abbrev pub is_marked : List Bool → ℕ → Bool
is_marked marks number = slice_index_or marks (number % 4096) false
