-- Lines, and the numbers that words are.
use Rattle.std.specs.Prelude.{ℕ, ◌==◌, ◌&&◌, ◌^◌, nat_lt, List, [], ◌∷◌, ◌++◌, Option, Some, None, decimal, if◌then◌else◌}
use Rattle.std.specs.List.{slice_split}
use Rattle.std.specs.Str.{bytes_eq}
use Rattle.std.specs.Str.Parse.{digits_value}

-- nothing behind the last LF is no line
abbrev pub last_piece : List ℕ → List (List ℕ)
last_piece [] = []
last_piece (b ∷ bs) = (b ∷ bs) ∷ []

abbrev pub without_end : List (List ℕ) → List (List ℕ)
without_end [] = []
without_end (l ∷ []) = last_piece l
without_end (l ∷ m ∷ ls) = l ∷ without_end (m ∷ ls)

-- the lines of a text: each ends with LF, which the last may lack
abbrev pub lines : List ℕ → List (List ℕ)
lines text = without_end (slice_split (λ b. b == 10) text)

-- words, each behind a blank
abbrev pub spaced : List (List ℕ) → List ℕ
spaced [] = []
spaced (w ∷ ws) = 32 ∷ w ++ spaced ws

-- words parted by single blanks
abbrev pub joined : List (List ℕ) → List ℕ
joined [] = []
joined (w ∷ ws) = w ++ spaced ws

-- a line of words, and LF
abbrev pub line_text : List (List ℕ) → List ℕ
line_text ws = joined ws ++ 10 ∷ []

abbrev pub text_of_lines : List (List (List ℕ)) → List ℕ
text_of_lines [] = []
text_of_lines (l ∷ ls) = line_text l ++ text_of_lines ls

-- the number below 2^32 that a word writes in decimal, without leading zeros
unfoldable pub number : List ℕ → Option ℕ
number w = if nat_lt (digits_value 10 w) (2 ^ 32) && bytes_eq (decimal (digits_value 10 w)) w then Some (digits_value 10 w) else None
