-- Which answer to a problem is chosen.
use Rattle.std.specs.Prelude.{◌≡◌, Bool, true, false}
use Rattle.route_model.specs.Links.{offers_of}
use Rattle.route_model.specs.Routing.{busiest}
use Rattle.route_solve.specs.Problems.{RoutingProblem, RoutingAnswer}
use Rattle.route_solve.specs.Shown.{Shown}
use Rattle.route_spread.specs.Sharing.{IsLeastShared}
use Rattle.acpi_configure.specs.Configured.{Solves}

-- An assignment under which links share interrupts as little as they can, and the set that shows why no interrupt is less busy. Where
-- the first least assignment is such a one, it is that.
pub record Spreads (p : RoutingProblem) (a : RoutingAnswer) : Type 0 where
  pub shared : IsLeastShared (offers_of p.links) p.wired a.choice
  pub busiest_is : busiest p.wired a.choice ≡ a.busiest
  pub shown : Shown (offers_of p.links) p.wired a.busiest a.links a.interrupts
  pub stays : (first : RoutingAnswer) → Solves p first → IsLeastShared (offers_of p.links) p.wired first.choice → a.choice ≡ first.choice

abbrev pub IsChosen : Bool → RoutingProblem → RoutingAnswer → Type 0
IsChosen true p a = Spreads p a
IsChosen false p a = Solves p a
