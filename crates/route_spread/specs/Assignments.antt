-- An assignment by places, with its loads.
use Rattle.std.specs.Prelude.{◌≡◌, ℕ, ◌+◌, ◌<◌, ◌≤◌, ◌^◌, Bool, List, length, map}
use Rattle.std.specs.List.Sorted.{IsStrictlyIncreasing}
use Rattle.route_model.specs.Routing.{given, wired_to}
use Rattle.route_numbers.specs.Numbers.{number_at, IsNumbered}
use Rattle.route_model.specs.Placement.{Offers}
use Rattle.route_spread.specs.Marks.{at, ArePlaced, IsListed}

-- links, by their places, on the interrupts that they have in an assignment, by the places of these
pub record IsSharing (offers : List (List ℕ)) (wired : List (ℕ × ℕ)) (a numbers : List ℕ) (places : List (List ℕ)) (choice loads : List ℕ) : Type 0 where
  pub up : IsStrictlyIncreasing numbers
  pub numbered : IsNumbered offers numbers places
  pub named : map (number_at numbers) choice ≡ a
  pub many : length choice ≡ length places
  pub placed : ArePlaced places choice
  pub long : length loads ≡ length numbers
  pub loaded : (x : ℕ) → x < length numbers → at loads x ≡ given choice x + wired_to wired (number_at numbers x)

-- what a marking needs of an assignment: links offer known interrupts and have one of these each, and no load is too great to count with
pub record IsAssigned (places : List (List ℕ)) (choice loads : List ℕ) : Type 0 where
  pub links : length places ≡ length choice
  pub below : (l x : ℕ) → Offers places l x → x < length loads
  pub placed : ArePlaced places choice
  pub small : (x : ℕ) → at loads x ≤ 2 ^ 100

-- room for the marks of so many interrupts
pub record HasRoom (count : ℕ) (raised : List Bool) (from interrupts ranks : List ℕ) : Type 0 where
  pub marks : length raised ≡ count
  pub links : length from ≡ count
  pub order : length interrupts ≡ count
  pub listed : IsListed interrupts ranks
