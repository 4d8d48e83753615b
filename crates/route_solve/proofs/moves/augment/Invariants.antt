use Rattle.std.proofs.Common.{◌≡◌, ◌<◌, length}
use Rattle.route_solve.specs.Graphs.{capacity, edges, interrupts_in}
use Rattle.route_solve.specs.Capacities.{IsCounted}
use Rattle.route_solve.proofs.Handing.{IsHanded}
use Rattle.route_solve.proofs.moves.augment.Given as goal

abbrev pub invariant-loop-pos : goal.invariant-loop-pos
invariant-loop-pos l = record {
  within : l.pos < length l.ways;
  interrupts : length l.matching.counts.items ≡ interrupts_in l.graph;
  counted : IsCounted l.matching.counts.items l.matching.choice.items;
  handed : IsHanded (edges l.graph) (capacity l.graph) l.graph.low l.fn.matching.choice.items l.ways l.link l.start l.matching.choice.items l.to_place l.pos;
}

abbrev pub decreases-loop-pos : goal.decreases-loop-pos
decreases-loop-pos l = l.pos
