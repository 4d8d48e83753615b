-- The set of links and interrupts that shows why no assignment is less busy.
use Rattle.std.specs.Prelude.{◌≡◌, ◌≢◌, ◌<◌, ◌≤◌, ◌+◌, ◌↔◌, ℕ, List, [], ◌∷◌, length, take, Contains}
use Rattle.std.specs.List.Sorted.{IsStrictlyIncreasing}
use Rattle.route_model.specs.Routing.{wired_to}
use Rattle.route_model.specs.Placement.{Offers, CanPlace, CanPlaceBut}
use Rattle.route_solve.specs.Room.{room_of}

-- Of the links up to the first one with which they can't all be placed, those without which the others can, and all that
-- those offer.
pub record IsCrowdedSet (offers : List (List ℕ)) (room : ℕ → ℕ) (links interrupts : List ℕ) : Type 0 where
  pub last : ℕ
  pub within : last < length offers
  pub before : CanPlace (take last offers) room
  pub not_all : CanPlace (take (last + 1) offers) room → ⊥
  pub is_link : (l : ℕ) → Contains links l ↔ ((l ≤ last) × CanPlaceBut (take (last + 1) offers) room l)
  pub is_interrupt : (n : ℕ) → Contains interrupts n ↔ ((l : ℕ) × Contains links l × Offers offers l n)
  pub links_ascend : IsStrictlyIncreasing links
  pub interrupts_ascend : IsStrictlyIncreasing interrupts

-- The set for the least busiest: none where that serves no source; the first interrupt that so many sources are wired to,
-- if there is one; else the crowded set where each interrupt has room for one source less than the busiest.
pub data Shown (offers : List (List ℕ)) (wired : List (ℕ × ℕ)) : ℕ → List ℕ → List ℕ → Type 0 where
  Idle : Shown offers wired 0 [] []
  Wired : {k i : ℕ} → 0 < k → wired_to wired i ≡ k → ((j : ℕ) → j < i → wired_to wired j ≢ k) → Shown offers wired k [] (i ∷ [])
  Crowded : (k : ℕ) {links interrupts : List ℕ} → ((i : ℕ) → wired_to wired i ≢ k + 1) → IsCrowdedSet offers (room_of k wired []) links interrupts → Shown offers wired (k + 1) links interrupts
