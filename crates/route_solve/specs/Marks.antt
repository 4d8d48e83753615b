-- Links that are marked, and what they offer.
use Rattle.std.specs.Prelude.{◌≡◌, ◌<◌, ◌+◌, ◌==◌, ◌&&◌, ◌||◌, ℕ, Bool, true, false, List, [], ◌∷◌, cond}
use Rattle.std.specs.List.{list_any}
use Rattle.route_model.specs.Routing.{wired_to}
use Rattle.route_model.specs.Placement.{Offers}
use Rattle.route_numbers.specs.Numbers.{has}

-- the places of the marks
abbrev pub places_from : ℕ → List Bool → List ℕ
places_from i [] = []
places_from i (b ∷ bs) = cond b (i ∷ places_from (i + 1) bs) (places_from (i + 1) bs)

-- whether a marked link offers an interrupt
abbrev pub is_offered_by : List (List ℕ) → List Bool → ℕ → Bool
is_offered_by [] bs n = false
is_offered_by (o ∷ os) [] n = false
is_offered_by (o ∷ os) (b ∷ bs) n = (b && list_any (λ m. m == n) o) || is_offered_by os bs n

-- every number that is offered or has wired sources
pub record HasAll (offers : List (List ℕ)) (wired : List (ℕ × ℕ)) (numbers : List ℕ) : Type 0 where
  pub offered : (l n : ℕ) → Offers offers l n → has numbers n ≡ true
  pub sources : (i : ℕ) → 0 < wired_to wired i → has numbers i ≡ true
