-- A search by levels along alternating paths: from a link to an interrupt that it offers, from there to the links that have it.
-- The links that it reached stand in a queue.
use Rattle.std.specs.Prelude.{◌≡◌, ◌≢◌, ℕ, ◌+◌, ◌<◌, ◌≤◌, Bool, true, Option, Some, List, length, not, count_by}
use Rattle.route_solve.specs.Capacities.{at}
use Rattle.route_model.specs.Placement.{place_of, is_reached, Offers, taken}

-- the queue up to a place: no link twice, none below the first that may be moved, and each that has an interrupt was reached
-- from an earlier one, which offers it
pub record IsTrail (offers : List (List ℕ)) (p : List (Option ℕ)) (low : ℕ) (queue : List ℕ) (tail : ℕ) : Type 0 where
  pub known : (k : ℕ) → k < tail → at queue k < length p
  pub movable : (k : ℕ) → k < tail → low ≤ at queue k
  pub once : (j k : ℕ) → j < k → k < tail → at queue j ≢ at queue k
  pub linked : (k i : ℕ) → k < tail → place_of p (at queue k) ≡ Some i → (j : ℕ) × (j < k) × Offers offers (at queue j) i

-- the reached links are those of the queue
pub record IsQueue (reached : List Bool) (queue : List ℕ) (tail : ℕ) : Type 0 where
  pub marked : (k : ℕ) → k < tail → is_reached reached (at queue k) ≡ true
  pub listed : (l : ℕ) → is_reached reached l ≡ true → (k : ℕ) × (k < tail) × (at queue k ≡ l)
  pub counted : tail + count_by not reached ≡ length reached

-- what was reached or seen stays so
abbrev pub IsKept : List Bool → List Bool → Type 0
IsKept before after = (k : ℕ) → is_reached before k ≡ true → is_reached after k ≡ true

-- the queue grew, and what stood in it stands there
pub record IsLonger (queue : List ℕ) (tail : ℕ) (queue' : List ℕ) (tail' : ℕ) : Type 0 where
  pub longer : tail ≤ tail'
  pub kept : (k : ℕ) → k < tail → at queue' k ≡ at queue k

-- an interrupt is full, and all links there that may be moved are reached
pub record IsClosed (room : ℕ → ℕ) (p : List (Option ℕ)) (low : ℕ) (reached : List Bool) (i : ℕ) : Type 0 where
  pub full : room i ≤ taken p i
  pub holders : (j : ℕ) → low ≤ j → place_of p j ≡ Some i → is_reached reached j ≡ true

-- so are all interrupts that were seen
abbrev pub AreClosed : (ℕ → ℕ) → List (Option ℕ) → ℕ → List Bool → List Bool → Type 0
AreClosed room p low reached seen = (i : ℕ) → is_reached seen i ≡ true → IsClosed room p low reached i

-- all that the links from one place of the queue to another offer was seen
abbrev pub AreDone : List (List ℕ) → List Bool → List ℕ → ℕ → ℕ → Type 0
AreDone offers seen queue start end = (k i : ℕ) → start ≤ k → k < end → Offers offers (at queue k) i → is_reached seen i ≡ true

-- a link of the queue offers an interrupt that has room
pub record IsFound (offers : List (List ℕ)) (room : ℕ → ℕ) (p : List (Option ℕ)) (queue : List ℕ) (tail pos i : ℕ) : Type 0 where
  pub within : pos < tail
  pub offered : Offers offers (at queue pos) i
  pub free : taken p i < room i
