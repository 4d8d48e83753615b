-- A claim, as contracts see it.
use Rattle.std.specs.Prelude.{ℕ, Bool, List, [], Option, Some, None}
use Rattle.aml_path.specs.declared.segment.Seg.{Seg}
use Rattle.route_model.specs.Links.{OfferingLink}

-- links, and the interrupts that they offer
pub record BoundingSet : Type 0 where
  pub links : List (List Seg)
  pub interrupts : List ℕ

-- links with their offers, counts of wired pins by interrupt, the interrupt that the System Control Interrupt is wired to, if
-- there is one, the interrupts that no link is to be given, what each link is given, how many sources the busiest interrupt
-- serves, why no assignment has a less busy one, and whether it is claimed that links share interrupts as little as they can
pub record RoutingClaim : Type 0 where
  pub links : List OfferingLink
  pub wired : List (ℕ × ℕ)
  pub sci : Option ℕ
  pub avoid : List ℕ
  pub gives : List (List Seg × ℕ)
  pub busiest : ℕ
  pub bound : Option BoundingSet
  pub spread : Bool

abbrev pub links_of_bound : Option BoundingSet → List (List Seg)
links_of_bound None = []
links_of_bound (Some b) = b.links

abbrev pub interrupts_of_bound : Option BoundingSet → List ℕ
interrupts_of_bound None = []
interrupts_of_bound (Some b) = b.interrupts
