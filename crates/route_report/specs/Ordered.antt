-- The lists of a claim in order: paths in path order, numbers ascending. What stands twice stays twice. The interrupts that are
-- avoided ascend already where they are read, and stay as they are.
use Rattle.std.specs.Prelude.{◌≡◌, ℕ, ◌==◌, List, [], ◌∷◌, ◌++◌, Option, Some, None, is_some, if◌then◌else◌}
use Rattle.std.specs.List.{dedup}
use Rattle.std.specs.declared.cmp.Ordering.{Ordering}
use Rattle.std.specs.List.Sorted.{IsPermutation, IsSorted, IsStrictlyIncreasing}
use Rattle.std.specs.Ordering.{is_gt, nat_cmp, ordering_then}
use Rattle.std.specs.Cmp.Lexicographic.{slice_cmp}
use Rattle.aml_path.specs.declared.segment.Seg.{Seg}
use Rattle.aml_path.specs.Paths.{path_cmp}
use Rattle.route_model.specs.Links.{OfferingLink}
use Rattle.route_check.specs.Claims.{BoundingSet, RoutingClaim, links_of_bound, interrupts_of_bound}

-- an element among those in order, before the first that isn't below it
abbrev pub among : {X : Type 0} → (X → X → Ordering) → X → List X → List X
among order x [] = x ∷ []
among order x (y ∷ ys) = if is_gt (order x y) then y ∷ among order x ys else x ∷ y ∷ ys

abbrev pub in_order : {X : Type 0} → (X → X → Ordering) → List X → List X
in_order order [] = []
in_order order (x ∷ xs) = among order x (in_order order xs)

-- links by their paths, those of one path by their offers
abbrev pub link_order : OfferingLink → OfferingLink → Ordering
link_order k l = ordering_then (path_cmp k.path l.path) (slice_cmp nat_cmp k.offers l.offers)

-- wired interrupts by their numbers, those of one number by their counts
abbrev pub wired_order : ℕ × ℕ → ℕ × ℕ → Ordering
wired_order v w = ordering_then (nat_cmp v.0 w.0) (nat_cmp v.1 w.1)

-- gives by their paths, those of one path by their interrupts
abbrev pub give_order : List Seg × ℕ → List Seg × ℕ → Ordering
give_order g h = ordering_then (path_cmp g.0 h.0) (nat_cmp g.1 h.1)

abbrev pub bound_in_order : Option BoundingSet → Option BoundingSet
bound_in_order None = None
bound_in_order (Some b) = Some (record { links = in_order path_cmp b.links; interrupts = in_order nat_cmp b.interrupts })

-- the interrupts that no link may be given, ascending and each once, where those of some devices are spared: these, and those that are
-- avoided
abbrev pub barred : List ℕ → List ℕ → List ℕ
barred avoid spared = dedup ◌==◌ (in_order nat_cmp (avoid ++ spared))

-- the same, where there may be none that are spared
abbrev pub barred_by : List ℕ → Option (List ℕ) → List ℕ
barred_by avoid None = avoid
barred_by avoid (Some spared) = barred avoid spared

abbrev pub claim_in_order : RoutingClaim → RoutingClaim
claim_in_order c = record {
  links = in_order link_order c.links;
  wired = in_order wired_order c.wired;
  sci = c.sci;
  avoid = c.avoid;
  gives = in_order give_order c.gives;
  busiest = c.busiest;
  bound = bound_in_order c.bound;
  spread = c.spread;
}

-- no element stands after one that comes before it, and no interrupt is avoided twice
pub record IsInOrder (c : RoutingClaim) : Type 0 where
  pub links : IsSorted link_order c.links
  pub wired : IsSorted wired_order c.wired
  pub avoid : IsStrictlyIncreasing c.avoid
  pub gives : IsSorted give_order c.gives
  pub set : IsSorted path_cmp (links_of_bound c.bound)
  pub interrupts : IsSorted nat_cmp (interrupts_of_bound c.bound)

-- each list of the one has the elements of the other's, and the rest is the same
pub record HasSameElements (c d : RoutingClaim) : Type 0 where
  pub links : IsPermutation c.links d.links
  pub wired : IsPermutation c.wired d.wired
  pub sci : c.sci ≡ d.sci
  pub avoid : c.avoid ≡ d.avoid
  pub gives : IsPermutation c.gives d.gives
  pub set : IsPermutation (links_of_bound c.bound) (links_of_bound d.bound)
  pub interrupts : IsPermutation (interrupts_of_bound c.bound) (interrupts_of_bound d.bound)
  pub busiest : c.busiest ≡ d.busiest
  pub bound : is_some c.bound ≡ is_some d.bound
  pub spread : c.spread ≡ d.spread
