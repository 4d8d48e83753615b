-- A search for augmenting paths, back from the interrupts that have room. An interrupt is ready if an augmenting path begins
-- there: it has room, or a link that has it can go to one that is ready.
use Rattle.std.specs.Prelude.{◌≡◌, ◌≢◌, ◌⊎◌, ℕ, ◌+◌, ◌/◌, ◌<◌, ◌≤◌, Bool, true, Option, Some, None, IsSome, List, length, not, count_by, slice_index_or}
use Rattle.route_model.specs.Placement.{place_of, is_reached, taken, Offers}
use Rattle.route_solve.specs.declared.ways.Way.{Way}
use Rattle.route_solve.specs.Capacities.{at}
use Rattle.route_solve.specs.Levels.{IsKept}
use Rattle.route_solve.specs.Rows.{HasBit}

abbrev pub no_way : Way
no_way = record { interrupt = 0; link = 0; next = 0 }

abbrev pub way_at : List Way → ℕ → Way
way_at ways k = slice_index_or ways k no_way

-- the interrupt that a way makes ready
abbrev pub ready_at : List Way → ℕ → ℕ
ready_at ways k = (way_at ways k).interrupt

-- a link that has the interrupt can go to that of an earlier way
pub record IsPassing (offers : List (List ℕ)) (p : List (Option ℕ)) (low : ℕ) (ways : List Way) (k : ℕ) (w : Way) : Type 0 where
  pub before : w.next < k
  pub movable : low ≤ w.link
  pub held : place_of p w.link ≡ Some w.interrupt
  pub offered : Offers offers w.link (ready_at ways w.next)

-- why the interrupt of a way at place k is ready
abbrev pub IsWay : List (List ℕ) → (ℕ → ℕ) → List (Option ℕ) → ℕ → List Way → ℕ → Way → Type 0
IsWay offers room p low ways k w = (taken p w.interrupt < room w.interrupt) ⊎ IsPassing offers p low ways k w

-- ways, to no interrupt twice
pub record AreWays (offers : List (List ℕ)) (room : ℕ → ℕ) (p : List (Option ℕ)) (low : ℕ) (ways : List Way) (tail : ℕ) : Type 0 where
  pub once : (j k : ℕ) → j < k → k < tail → ready_at ways j ≢ ready_at ways k
  pub each : (k : ℕ) → k < tail → IsWay offers room p low ways k (way_at ways k)

-- how far a search has come: its ways, the interrupts that it made ready, and the links that are left. The others have
-- interrupts that are ready, or none.
pub record IsSearch (offers : List (List ℕ)) (room : ℕ → ℕ) (p : List (Option ℕ)) (low : ℕ) (left : List ℕ) (ready : List Bool) (ways : List Way) (tail : ℕ) : Type 0 where
  pub fits : length ways ≡ length ready
  pub all : AreWays offers room p low ways tail
  pub marked : (k : ℕ) → k < tail → is_reached ready (ready_at ways k) ≡ true
  pub listed : (i : ℕ) → is_reached ready i ≡ true → (k : ℕ) × (k < tail) × (ready_at ways k ≡ i)
  pub counted : tail + count_by not ready ≡ length ready
  pub movable : (j : ℕ) → HasBit left j → low ≤ j
  pub gone : (j x : ℕ) → low ≤ j → (HasBit left j → ⊥) → place_of p j ≡ Some x → is_reached ready x ≡ true

-- what a search adds
pub record IsFurther (ready : List Bool) (ways : List Way) (tail : ℕ) (ready' : List Bool) (ways' : List Way) (tail' : ℕ) : Type 0 where
  pub longer : tail ≤ tail'
  pub kept : IsKept ready ready'
  pub same : (k : ℕ) → k < tail → way_at ways' k ≡ way_at ways k

-- a link was taken out of those that are left
pub record IsCleared (before after : List ℕ) (j : ℕ) : Type 0 where
  pub kept : (k : ℕ) → HasBit after k → HasBit before k
  pub others : (k : ℕ) → k ≢ j → HasBit before k → HasBit after k
  pub fewer : at after (j / 64) < at before (j / 64)

-- all interrupts that are ready are known: those that have room, and those that a link can leave for one of them
pub record AreReady (offers : List (List ℕ)) (room : ℕ → ℕ) (p : List (Option ℕ)) (low : ℕ) (ready : List Bool) : Type 0 where
  pub rooms : (i : ℕ) → i < length ready → taken p i < room i → is_reached ready i ≡ true
  pub held : (j i x : ℕ) → low ≤ j → Offers offers j i → is_reached ready i ≡ true → place_of p j ≡ Some x → is_reached ready x ≡ true

-- A link that had no interrupt has one, the others with interrupts still have some, and those with none have none.
pub record IsAugmented (low : ℕ) (p : List (Option ℕ)) (link : ℕ) (q : List (Option ℕ)) : Type 0 where
  pub here : IsSome (place_of q link)
  pub whole : (m : ℕ) → IsSome (place_of p m) → IsSome (place_of q m)
  pub kept : (m : ℕ) → m < low → m ≢ link → place_of q m ≡ place_of p m
  pub others : (m : ℕ) → place_of p m ≡ None → m ≢ link → place_of q m ≡ None
