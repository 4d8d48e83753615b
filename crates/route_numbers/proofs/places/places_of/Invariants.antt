use Rattle.std.proofs.Common.{◌≡◌, ◌<◌, ℕ, length, map, take}
use Rattle.std.specs.Prelude.{Contains}
use Rattle.route_numbers.specs.Numbers.{number_at}
use Rattle.route_numbers.proofs.places.places_of.Given as goal

abbrev pub invariant-loop-n : goal.invariant-loop-n
invariant-loop-n l = record {
  below : (i : ℕ) → Contains l.places.items i → i < length l.numbers;
  named : map (number_at l.numbers) l.places.items ≡ take l.n-index l.offers;
}
