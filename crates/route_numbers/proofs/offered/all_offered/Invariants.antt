use Rattle.std.proofs.Common.{◌≡◌, ◌<◌, ℕ, true}
use Rattle.std.specs.Prelude.{Contains}
use Rattle.route_model.specs.Placement.{Offers}
use Rattle.route_model.specs.Links.{offers_of}
use Rattle.route_numbers.specs.Numbers.{is_offered}
use Rattle.route_numbers.proofs.offered.all_offered.Given as goal

abbrev pub invariant-loop-link : goal.invariant-loop-link
invariant-loop-link l = record {
  all : (k n : ℕ) → k < l.link-index → Offers (offers_of l.links) k n → Contains l.numbers.items n;
  none : (n : ℕ) → Contains l.numbers.items n → is_offered (offers_of l.links) n ≡ true;
}
