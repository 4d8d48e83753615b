use Rattle.std.proofs.Common.{◌≤◌, ◌<◌, ◌-◌, ℕ, length}
use Rattle.std.specs.Prelude.{IsSome}
use Rattle.route_model.specs.Placement.{place_of}
use Rattle.route_solve.specs.Graphs.{edges, ExtendsHall, SearchesHall}
use Rattle.route_solve.specs.Capacities.{at}
use Rattle.route_solve.specs.Levels.{AreDone}
use Rattle.route_solve.proofs.hall.HallSearch.explore.Given as goal

abbrev pub invariant-loop-pos : goal.invariant-loop-pos
invariant-loop-pos l = record {
  within : l.pos ≤ l.self.tail;
  search : SearchesHall l.graph l.matching l.self;
  further : ExtendsHall l.fn.self l.self;
  held : (k : ℕ) → l.fn.self.tail ≤ k → k < l.self.tail → IsSome (place_of l.matching.choice.items (at l.self.queue.items k));
  done : AreDone (edges l.graph) l.self.seen.items l.self.queue.items 0 l.pos;
}

abbrev pub decreases-loop-pos : goal.decreases-loop-pos
decreases-loop-pos l = length l.graph.offers.now - l.pos
