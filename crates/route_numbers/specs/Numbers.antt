-- The offered interrupts in ascending order, what the links offer by places among them, and how many sources are
-- wired to each.
use Rattle.std.specs.Prelude.{◌≡◌, ◌==◌, ◌<◌, ℕ, Bool, true, List, length, map, slice_index_or}
use Rattle.std.specs.List.{list_any}
use Rattle.std.specs.Global.{Vec}
use Rattle.route_model.specs.Routing.{wired_to}
use Rattle.route_model.specs.Placement.{Offers}

-- whether a list has a number
abbrev pub has : List ℕ → ℕ → Bool
has xs n = list_any (λ m. m == n) xs

-- whether a link offers an interrupt
abbrev pub is_offered : List (List ℕ) → ℕ → Bool
is_offered offers n = list_any (λ o. has o n) offers

-- some numbers are the offered interrupts: each of them, and no other
pub record AreTheOffered (offers : List (List ℕ)) (numbers : List ℕ) : Type 0 where
  pub all : (l n : ℕ) → Offers offers l n → has numbers n ≡ true
  pub none : (n : ℕ) → has numbers n ≡ true → is_offered offers n ≡ true

abbrev pub lists_of : List (Vec ℕ) → List (List ℕ)
lists_of vs = map (λ v. v.items) vs

-- the interrupt at a place
abbrev pub number_at : List ℕ → ℕ → ℕ
number_at numbers i = slice_index_or numbers i 0

-- the places of what each link offers
pub record IsNumbered (offers : List (List ℕ)) (numbers : List ℕ) (places : List (List ℕ)) : Type 0 where
  pub below : (l i : ℕ) → Offers places l i → i < length numbers
  pub named : map (map (number_at numbers)) places ≡ offers

-- how many sources are wired to the interrupt at each place
pub record AreSources (numbers : List ℕ) (wired : List (ℕ × ℕ)) (sources : List ℕ) : Type 0 where
  pub long : length sources ≡ length numbers
  pub each : (i : ℕ) → i < length numbers → number_at sources i ≡ wired_to wired (number_at numbers i)
