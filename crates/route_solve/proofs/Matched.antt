-- A matching from its parts.
use Rattle.std.proofs.Common.{◌≡◌, ℕ, List, length, arith}
use Rattle.std.specs.Global.{Vec}
use Rattle.route_model.specs.Placement.{IsPlacement}
use Rattle.route_solve.specs.declared.matching.Matching.{Matching}
use Rattle.route_solve.specs.Graphs.{IsMatched}
use Rattle.route_solve.specs.Capacities.{capacity_at, IsCounted}
use Rattle.route_numbers.specs.Numbers.{lists_of}
use Rattle.route_numbers.proofs.Numbered.{lists_length}

pub matched : (offers : List (Vec ℕ)) (sources : List ℕ) (limit : ℕ) (m : Matching) → length m.counts.items ≡ length sources → IsCounted m.counts.items m.choice.items → IsPlacement (lists_of offers) (capacity_at limit sources) m.choice.items → IsMatched offers sources limit m
matched offers sources limit m interrupts counted placed = record {
  links = let e = placed.same_length in let f = lists_length offers in omega arith;
  interrupts = interrupts;
  counted = counted;
  placed = placed;
}
