-- Placements by the places of the interrupts, and by their numbers.
use Rattle.std.specs.Prelude.{ℕ, Option, Some, None, List, map}
use Rattle.route_numbers.specs.Numbers.{number_at}

abbrev pub name_of : List ℕ → Option ℕ → Option ℕ
name_of numbers None = None
name_of numbers (Some i) = Some (number_at numbers i)

-- with numbers for places
abbrev pub named : List ℕ → List (Option ℕ) → List (Option ℕ)
named numbers p = map (name_of numbers) p
