-- How many links an interrupt may be given to, and how many it is given to.
use Rattle.std.specs.Prelude.{◌≡◌, ℕ, ◌-◌, ◌<◌, Option, List, length, slice_index_or}
use Rattle.route_model.specs.Placement.{taken}

-- what stands at a place of a list of numbers
abbrev pub at : List ℕ → ℕ → ℕ
at xs k = slice_index_or xs k 0

-- how many links may have an interrupt within a limit: its capacity
abbrev pub capacity_at : ℕ → List ℕ → ℕ → ℕ
capacity_at limit sources i = limit - at sources i

-- how many links have each interrupt
abbrev pub IsCounted : List ℕ → List (Option ℕ) → Type 0
IsCounted counts p = (i : ℕ) → i < length counts → at counts i ≡ taken p i
