use Rattle.std.proofs.Common.{◌≡◌, ◌≤◌, ◌<◌, ◌+◌, ◌-◌, ℕ, None}
use Rattle.std.specs.Prelude.{◌⊎◌, IsSome}
use Rattle.route_model.specs.Placement.{place_of}
use Rattle.route_solve.specs.Certificate.{IsCertificate}
use Rattle.route_solve.specs.Graphs.{edges, AreBuffers, IsMatched}
use Rattle.route_solve.specs.Capacities.{capacity_at}
use Rattle.route_solve.proofs.fill.place_all.Given as goal

abbrev pub invariant-loop-link : goal.invariant-loop-link
invariant-loop-link l = record {
  matching : IsMatched l.graph.offers.now l.graph.sources.now l.limit l.matching;
  sized : AreBuffers l.graph l.buffers;
  whole : (k : ℕ) → k < l.link → IsSome (place_of l.matching.choice.items k);
  unplaced : (k : ℕ) → l.link ≤ k → place_of l.matching.choice.items k ≡ None;
  above : l.graph.limit ≤ l.limit;
  small : l.limit ≤ l.graph.limit + l.link;
  shown : (l.limit ≡ l.graph.limit) ⊎ ((l.graph.limit < l.limit) × IsCertificate (edges l.graph) (capacity_at (l.limit - 1) l.graph.sources.now) l.buffers.hall.reached.items);
}
