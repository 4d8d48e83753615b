-- What moving one link leaves.
use Rattle.std.specs.Prelude.{◌≡◌, ◌≢◌, ℕ, ◌+◌, ◌<◌, ◌≤◌, Bool, true, false, Option, None, List, length, IsSome, cond}
use Rattle.route_model.specs.Placement.{is_at, place_of, is_reached, taken, IsPlacement}

-- The others can be placed without link l, and those that were not reached stay where they are.
pub record Spares (offers : List (List ℕ)) (room : ℕ → ℕ) (p : List (Option ℕ)) (reached : List Bool) (l : ℕ) : Type 0 where
  pub others : List (Option ℕ)
  pub placed : IsPlacement offers room others
  pub left_out : place_of others l ≡ None
  pub whole : (k : ℕ) → k < length offers → k ≢ l → IsSome (place_of others k)
  pub kept : (k : ℕ) → is_reached reached k ≡ false → k ≢ l → place_of others k ≡ place_of p k

-- Link l has a number other than before, and its number of before is free.
pub record Moved (offers : List (List ℕ)) (room : ℕ → ℕ) (p q : List (Option ℕ)) (reached : List Bool) (l : ℕ) : Type 0 where
  pub placed : IsPlacement offers room q
  pub free : (n : ℕ) → taken q n + cond (is_at n (place_of p l)) 1 0 ≤ room n
  pub has : IsSome (place_of q l)
  pub whole : (k : ℕ) → IsSome (place_of p k) → IsSome (place_of q k)
  pub kept : (k : ℕ) → is_reached reached k ≡ true → k ≢ l → place_of q k ≡ place_of p k
