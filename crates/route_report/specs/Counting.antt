-- Which lines of a report count.
use Rattle.std.specs.Prelude.{ℕ, Bool, not, List, [], ◌∷◌}
use Rattle.text_words.specs.Words.{words}
use Rattle.route_report.specs.Reading.{is_passed_over}

-- the first of the words, where there is one
abbrev pub first_of : List (List ℕ) → List ℕ
first_of [] = []
first_of (w ∷ ws) = w

-- the line isn't passed over
abbrev pub counts : List ℕ → Bool
counts line = not (is_passed_over (first_of (words line)))
