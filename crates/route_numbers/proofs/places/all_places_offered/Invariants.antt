use Rattle.std.proofs.Common.{◌≡◌, ◌<◌, ℕ, length, map, take}
use Rattle.route_model.specs.Placement.{Offers}
use Rattle.route_model.specs.Links.{offers_of}
use Rattle.route_numbers.specs.Numbers.{number_at, lists_of}
use Rattle.route_numbers.proofs.places.all_places_offered.Given as goal

abbrev pub invariant-loop-link : goal.invariant-loop-link
invariant-loop-link l = record {
  below : (k i : ℕ) → Offers (lists_of l.places.items) k i → i < length l.numbers;
  named : map (map (number_at l.numbers)) (lists_of l.places.items) ≡ take l.link-index (offers_of l.links);
}
