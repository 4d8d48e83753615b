use Rattle.std.proofs.Common.{◌≡◌, ◌++◌, drop, map}
use Rattle.std.specs.Prelude.{All}
use Rattle.route_solve.specs.Fits.{IsOffer}
use Rattle.acpi_links.specs.Problems.{offering}
use Rattle.acpi_links.proofs.problem.offering_links.Given as goal

abbrev pub invariant-loop-path : goal.invariant-loop-path
invariant-loop-path l = (l.list.items ++ map (offering l.avoid) (drop l.path-index l.links) ≡ map (offering l.avoid) l.links) × All (λ link. IsOffer link.offers) l.list.items
