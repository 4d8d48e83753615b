use Rattle.std.proofs.Common.{◌≡◌, ◌≤◌, ◌<◌, ◌-◌, ℕ, Some, true}
use Rattle.route_model.specs.Placement.{is_reached, place_of, taken, Offers}
use Rattle.route_solve.specs.Graphs.{capacity, edges, interrupts_in, Searches}
use Rattle.route_solve.specs.Ready.{ready_at}
use Rattle.route_solve.proofs.search.Search.run.Given as goal

abbrev pub invariant-loop-pos : goal.invariant-loop-pos
invariant-loop-pos l = record {
  within : l.pos ≤ l.self.found;
  search : Searches l.graph l.matching l.self;
  rooms : (i : ℕ) → i < interrupts_in l.graph → taken l.matching.choice.items i < capacity l.graph i → is_reached l.self.visited.items i ≡ true;
  walked : (k m x : ℕ) → k < l.pos → l.graph.low ≤ m → Offers (edges l.graph) m (ready_at l.self.ways.items k) → place_of l.matching.choice.items m ≡ Some x → is_reached l.self.visited.items x ≡ true;
}

abbrev pub decreases-loop-pos : goal.decreases-loop-pos
decreases-loop-pos l = interrupts_in l.graph - l.pos
