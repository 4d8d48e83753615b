use Rattle.std.proofs.Common.{◌<◌, ℕ, get_or}
use Rattle.std.specs.Prelude.{◌⊎◌, Contains}
use Rattle.route_numbers.proofs.offered.add_offers.Given as goal

abbrev pub invariant-loop-n : goal.invariant-loop-n
invariant-loop-n l = record {
  kept : (m : ℕ) → Contains l.fn.numbers.items m → Contains l.numbers.items m;
  added : (k : ℕ) → k < l.n-index → Contains l.numbers.items (get_or l.offers k 0);
  only : (m : ℕ) → Contains l.numbers.items m → Contains l.fn.numbers.items m ⊎ Contains l.offers m;
}
