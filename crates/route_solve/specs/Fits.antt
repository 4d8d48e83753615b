-- What a caller owes of a problem.
use Rattle.std.specs.Prelude.{◌<◌, ◌≤◌, ℕ, List, [], length, map, sum_by, slice_index_or}
use Rattle.std.specs.List.Sorted.{IsStrictlyIncreasing, IsStrictlySortedBy}
use Rattle.aml_path.specs.Paths.{path_cmp}
use Rattle.route_model.specs.Links.{offers_of, paths_of}
use Rattle.route_solve.specs.Problems.{RoutingProblem}

-- the interrupts that a link offers
pub record IsOffer (offers : List ℕ) : Type 0 where
  pub some : 0 < length offers
  pub few : length offers ≤ 255
  pub ascending : IsStrictlyIncreasing offers

-- at most 256 links in path order, and interrupts in order with at most 4,096 wired sources
pub record Fits (p : RoutingProblem) : Type 0 where
  pub few : length p.links ≤ 256
  pub in_order : IsStrictlySortedBy path_cmp (paths_of p.links)
  pub offers : (k : ℕ) → k < length p.links → IsOffer (slice_index_or (offers_of p.links) k [])
  pub wired_in_order : IsStrictlyIncreasing (map (λ w. w.0) p.wired)
  pub counts : sum_by (λ w. w.1) p.wired ≤ 4096

-- what a search needs of a problem: not the order of the links
pub record IsSolvable (p : RoutingProblem) : Type 0 where
  pub few : length p.links ≤ 256
  pub offers : (k : ℕ) → k < length p.links → IsOffer (slice_index_or (offers_of p.links) k [])
  pub wired_in_order : IsStrictlyIncreasing (map (λ w. w.0) p.wired)
  pub counts : sum_by (λ w. w.1) p.wired ≤ 4096
