use Rattle.std.proofs.Common.{◌≡◌, ◌<◌, ℕ}
use Rattle.route_model.specs.Placement.{Offers}
use Rattle.route_numbers.specs.Numbers.{lists_of}
use Rattle.route_solve.specs.Rows.{bit_of}
use Rattle.route_solve.proofs.rows.add_links.Given as goal

abbrev pub invariant-loop-link : goal.invariant-loop-link
invariant-loop-link l = record {
  has : (k i : ℕ) → k < l.link → Offers (lists_of l.places) k i → bit_of l.words i k ≡ 1;
  only : (k i : ℕ) → k < 256 → bit_of l.words i k ≡ 1 → Offers (lists_of l.places) k i;
}
