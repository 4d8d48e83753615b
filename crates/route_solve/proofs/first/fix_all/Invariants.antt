use Rattle.std.proofs.Common.{◌<◌, ℕ}
use Rattle.route_solve.specs.First.{IsLeastAt}
use Rattle.route_solve.specs.Graphs.{capacity, edges, interrupts_in, IsComplete, IsCountBefore, IsSized}
use Rattle.route_solve.proofs.first.fix_all.Given as goal

abbrev pub invariant-loop-link : goal.invariant-loop-link
invariant-loop-link l = record {
  matching : IsComplete l.graph l.matching;
  sized : IsSized (interrupts_in l.graph) l.search;
  kept : IsCountBefore l.graph l.matching l.kept l.link;
  least : (k : ℕ) → k < l.link → IsLeastAt (edges l.graph) (capacity l.graph) l.matching.choice.items k;
}
