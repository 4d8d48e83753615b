-- Links placed on the interrupts that they offer, none of these more often than there is room.
use Rattle.std.specs.Prelude.{◌≡◌, ◌==◌, ◌≢◌, ℕ, ◌<◌, ◌≤◌, Bool, true, false, Option, Some, None, List, [], length, count_by, Contains, IsSome, map, slice_index_or}

-- where a link is, as a test
abbrev pub is_at : ℕ → Option ℕ → Bool
is_at n None = false
is_at n (Some m) = m == n

-- the number that a link has
abbrev pub place_of : List (Option ℕ) → ℕ → Option ℕ
place_of p k = slice_index_or p k None

-- whether a link was reached
abbrev pub is_reached : List Bool → ℕ → Bool
is_reached reached k = slice_index_or reached k false

abbrev pub Offers : List (List ℕ) → ℕ → ℕ → Type 0
Offers offers k n = Contains (slice_index_or offers k []) n

-- how many links have a number
abbrev pub taken : List (Option ℕ) → ℕ → ℕ
taken p n = count_by (is_at n) p

-- some links have numbers that they offer, none more often than its room
pub record IsPlacement (offers : List (List ℕ)) (room : ℕ → ℕ) (p : List (Option ℕ)) : Type 0 where
  pub same_length : length p ≡ length offers
  pub offered : (k n : ℕ) → place_of p k ≡ Some n → Offers offers k n
  pub within : (n : ℕ) → taken p n ≤ room n

-- all links but one have numbers
abbrev pub IsWholeBut : ℕ → List (Option ℕ) → Type 0
IsWholeBut l p = (k : ℕ) → k < length p → k ≢ l → IsSome (place_of p k)

abbrev pub IsWhole : List (Option ℕ) → Type 0
IsWhole p = (k : ℕ) → k < length p → IsSome (place_of p k)

-- each link can have a number that it offers, none of them more often than its room
abbrev pub CanPlace : List (List ℕ) → (ℕ → ℕ) → Type 0
CanPlace offers room = (p : List (Option ℕ)) × IsPlacement offers room p × IsWhole p

-- the same without link l
abbrev pub CanPlaceBut : List (List ℕ) → (ℕ → ℕ) → ℕ → Type 0
CanPlaceBut offers room l = (p : List (Option ℕ)) × IsPlacement offers room p × (place_of p l ≡ None) × IsWholeBut l p

-- a search that failed: from each link that was reached, every number is full and each link there was reached
pub record IsStuck (offers : List (List ℕ)) (room : ℕ → ℕ) (p : List (Option ℕ)) (reached : List Bool) (l : ℕ) : Type 0 where
  pub within_links : l < length p
  pub begins : is_reached reached l ≡ true
  pub unplaced : place_of p l ≡ None
  pub full : (k n : ℕ) → is_reached reached k ≡ true → Offers offers k n → room n ≤ taken p n
  pub holders : (k j n : ℕ) → is_reached reached k ≡ true → Offers offers k n → place_of p j ≡ Some n → is_reached reached j ≡ true

-- an assignment, as a placement of all links
abbrev pub placement_of : List ℕ → List (Option ℕ)
placement_of a = map (λ n. Some n) a
