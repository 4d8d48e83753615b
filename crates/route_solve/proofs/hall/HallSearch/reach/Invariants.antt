use Rattle.std.proofs.Common.{◌≡◌, ◌≤◌, ◌<◌, ℕ, Some, true}
use Rattle.route_model.specs.Placement.{is_reached, place_of}
use Rattle.route_solve.specs.Graphs.{ExtendsHall, SearchesHall}
use Rattle.route_solve.specs.Capacities.{at}
use Rattle.route_solve.proofs.hall.HallSearch.reach.Given as goal

abbrev pub invariant-loop-j : goal.invariant-loop-j
invariant-loop-j l = record {
  search : SearchesHall l.graph l.matching l.self;
  further : ExtendsHall l.fn.self l.self;
  seen : l.self.seen.items ≡ l.fn.self.seen.items;
  held : (k : ℕ) → l.fn.self.tail ≤ k → k < l.self.tail → place_of l.matching.choice.items (at l.self.queue.items k) ≡ Some l.i;
  holders : (k : ℕ) → l.graph.low ≤ k → k < l.j → place_of l.matching.choice.items k ≡ Some l.i → is_reached l.self.reached.items k ≡ true;
}
