-- Refusals that the wide profile passes over at module level, by the numbers that they are printed with.
use Rattle.std.specs.Prelude.{ℕ, List, [], ◌∷◌}

-- values of a wrong type, empty values and divisions by zero; fields of a wrong size; names that stand already, or aren't found; and terms
-- that are not evaluated, spaces that are not accessed, dead references, missing values and indices past an end
abbrev pub passed_numbers : List ℕ
passed_numbers = 40 ∷ 41 ∷ 42 ∷ 50 ∷ 60 ∷ 61 ∷ 73 ∷ 74 ∷ 75 ∷ 76 ∷ 80 ∷ []
