-- A problem and an answer, as contracts see them.
use Rattle.std.specs.Prelude.{ℕ, List}
use Rattle.route_model.specs.Links.{OfferingLink}

-- links with what they offer, and interrupts with the number of sources that are wired to them
pub record RoutingProblem : Type 0 where
  pub links : List OfferingLink
  pub wired : List (ℕ × ℕ)

-- an interrupt for each link, how many sources the busiest interrupt serves, and the set that no assignment can serve
-- better: links by their places in the problem, and interrupts
pub record RoutingAnswer : Type 0 where
  pub choice : List ℕ
  pub busiest : ℕ
  pub links : List ℕ
  pub interrupts : List ℕ
