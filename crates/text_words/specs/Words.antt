-- The words of a line, and what a text is cut into.
use Rattle.std.specs.Prelude.{ℕ, ◌==◌, nat_lt, List, [], length, Option, Some, None, if◌then◌else◌}
use Rattle.std.specs.List.{slice_split, position_or_len, after_first}

-- the words of a line, parted by single blanks
abbrev pub words : List ℕ → List (List ℕ)
words = slice_split (λ b. b == 32)

-- the words that are left, none where no blank stood before them
abbrev pub words_left : Option (List ℕ) → List (List ℕ)
words_left None = []
words_left (Some text) = words text

-- what follows the first such byte, if there is one
abbrev pub tail_at : ℕ → List ℕ → Option (List ℕ)
tail_at byte text = if nat_lt (position_or_len (λ b. b == byte) text) (length text) then Some (after_first (λ b. b == byte) text) else None

-- what follows the first blank, if there is one
abbrev pub tail_of : List ℕ → Option (List ℕ)
tail_of = tail_at 32
