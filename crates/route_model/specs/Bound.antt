-- Why no assignment is less busy than it is.
use Rattle.std.specs.Prelude.{◌≡◌, ◌≢◌, ℕ, ◌+◌, ◌-◌, ◌*◌, ◌<◌, List, length, sum_by, slice_index_or, Contains, AllPairs}
use Rattle.route_model.specs.Routing.{wired_to}
use Rattle.route_model.specs.Placement.{Offers}

-- no element stands twice
abbrev pub IsDistinct : {X : Type 0} → List X → Type 0
IsDistinct {X} xs = AllPairs (λ x y. x ≢ y) xs

-- Why no assignment is less busy than k: the links, by their places, offer these interrupts alone, and they are too many
-- sources, with those that are wired to these interrupts, for k - 1 on each.
pub record IsLowerBound (offers : List (List ℕ)) (wired : List (ℕ × ℕ)) (k : ℕ) (links interrupts : List ℕ) : Type 0 where
  pub some : 0 < length interrupts
  pub distinct_links : IsDistinct links
  pub distinct_interrupts : IsDistinct interrupts
  pub known : (l : ℕ) → Contains links l → l < length offers
  pub inside : (l n : ℕ) → Contains links l → Offers offers l n → Contains interrupts n
  pub crowded : (k - 1) * length interrupts < length links + sum_by (wired_to wired) interrupts

-- The same with links by their names.
pub record IsLowerBoundByName {X : Type 0} (names : List X) (offers : List (List ℕ)) (wired : List (ℕ × ℕ)) (k : ℕ) (links : List X) (interrupts : List ℕ) : Type 0 where
  pub some : 0 < length interrupts
  pub distinct_links : IsDistinct links
  pub distinct_interrupts : IsDistinct interrupts
  pub known : (x : X) → Contains links x → Contains names x
  pub inside : (l n : ℕ) (x : X) → Contains links x → l < length names → (d : X) → slice_index_or names l d ≡ x → Offers offers l n → Contains interrupts n
  pub crowded : (k - 1) * length interrupts < length links + sum_by (wired_to wired) interrupts
