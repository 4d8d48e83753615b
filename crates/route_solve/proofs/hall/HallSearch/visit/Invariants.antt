use Rattle.std.proofs.Common.{◌≡◌, ◌≤◌, ◌<◌, ℕ, [], true, get_or}
use Rattle.std.specs.Prelude.{IsSome}
use Rattle.route_model.specs.Placement.{is_reached, place_of}
use Rattle.route_solve.specs.Graphs.{edges, ExtendsHall, SearchesHall}
use Rattle.route_solve.specs.Capacities.{at}
use Rattle.route_solve.proofs.hall.HallSearch.visit.Given as goal

abbrev pub invariant-loop-i : goal.invariant-loop-i
invariant-loop-i l = record {
  items : get_or (edges l.graph) (at l.fn.self.queue.items l.pos) [] ≡ l.offers;
  search : SearchesHall l.graph l.matching l.self;
  further : ExtendsHall l.fn.self l.self;
  held : (k : ℕ) → l.fn.self.tail ≤ k → k < l.self.tail → IsSome (place_of l.matching.choice.items (at l.self.queue.items k));
  done : (k : ℕ) → k < l.i-index → is_reached l.self.seen.items (get_or l.offers k 0) ≡ true;
}
