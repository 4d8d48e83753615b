use Rattle.std.proofs.Common.{◌≡◌, ◌<◌, ℕ, true}
use Rattle.route_model.specs.Placement.{is_reached, taken}
use Rattle.route_solve.specs.Graphs.{capacity, Searches}
use Rattle.route_solve.proofs.search.Search.begin.Given as goal

abbrev pub invariant-loop-interrupt : goal.invariant-loop-interrupt
invariant-loop-interrupt l = record {
  search : Searches l.graph l.matching l.self;
  rooms : (i : ℕ) → i < l.interrupt → taken l.matching.choice.items i < capacity l.graph i → is_reached l.self.visited.items i ≡ true;
}
