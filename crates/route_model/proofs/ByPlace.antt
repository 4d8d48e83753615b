-- With a lower bound no assignment is less busy: links named by their places.
use Rattle.std.proofs.Common.{◌≡◌, ℕ, ◌≤◌, List, length, subst, arith}
use Rattle.std.specs.Prelude.{◌==◌}
use Rattle.std.specs.List.{range_with_len}
use Rattle.std.proofs.lemmas.List.FromFn.{length-range_with_len, get_or-range_with_len}
use Rattle.route_model.specs.Routing.{busiest, IsAssignment}
use Rattle.route_model.specs.Placement.{Offers}
use Rattle.route_model.specs.Bound.{IsLowerBound}
use Rattle.route_model.proofs.Bounds.{bound_least, nat_tells}

pub least_by_place : (offers : List (List ℕ)) (wired : List (ℕ × ℕ)) (k : ℕ) (links interrupts : List ℕ) → IsLowerBound offers wired k links interrupts → (b : List ℕ) → IsAssignment offers b → k ≤ busiest wired b
least_by_place offers wired k links interrupts bound =
    let n = length offers in
    let long = length-range_with_len 0 n in
    bound_least (λ x y. x == y) nat_tells 0 (range_with_len 0 n) offers wired links interrupts k (omega arith)
    (record {
      some = bound.some;
      distinct_links = bound.distinct_links;
      distinct_interrupts = bound.distinct_interrupts;
      known = λ x c. let b = bound.known x c in (x, omega arith, let at = get_or-range_with_len 0 n x x b in omega arith);
      inside = λ l m x c b d e o.
          let at = get_or-range_with_len 0 n l d (omega arith) in
          let is : l ≡ x = omega arith in
          bound.inside x m c (subst (λ (j : ℕ). Offers offers j m) is o);
      crowded = bound.crowded;
    })
