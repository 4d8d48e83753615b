use Rattle.std.specs.Prelude.{◌≡◌, ◌<◌, ◌≤◌, ◌+◌, ◌⊎◌, ℕ, Bool, true, false, Option, List, [], length, take}
use Rattle.route_model.specs.Placement.{is_reached, IsPlacement, CanPlace, CanPlaceBut, IsStuck}
use Rattle.route_solve.specs.Room.{room_of}

-- Why the capacities don't do: the links before the last one can be placed, the search from the last one is stuck, so that
-- those that it reached are a Hall set, and without any one of these the others can be placed.
pub record IsCertificate (offers : List (List ℕ)) (room : ℕ → ℕ) (reached : List Bool) : Type 0 where
  pub last : ℕ
  pub within : last < length offers
  pub before : CanPlace (take last offers) room
  pub placed : List (Option ℕ)
  pub is_placed : IsPlacement (take (last + 1) offers) room placed
  pub stuck : IsStuck (take (last + 1) offers) room placed reached last
  pub spared : (k : ℕ) → is_reached reached k ≡ true → CanPlaceBut (take (last + 1) offers) room k
  pub beyond : (k : ℕ) → last < k → is_reached reached k ≡ false

-- The links can be placed within a limit, and if it is above the floor, not within the one below.
pub record IsWithinLeast (offers : List (List ℕ)) (wired : List (ℕ × ℕ)) (floor limit : ℕ) (p : List (Option ℕ)) (reached : List Bool) : Type 0 where
  pub placed : IsPlacement offers (room_of limit wired []) p
  pub above : floor ≤ limit
  pub shown : (limit ≡ floor) ⊎ ((level : ℕ) × (limit ≡ level + 1) × (floor ≤ level) × IsCertificate offers (room_of level wired []) reached)
