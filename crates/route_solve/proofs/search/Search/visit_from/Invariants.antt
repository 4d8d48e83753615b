use Rattle.std.proofs.Common.{◌≡◌, ◌≤◌, ◌<◌, ◌/◌, ℕ, Some, true}
use Rattle.route_model.specs.Placement.{is_reached, place_of, Offers}
use Rattle.route_solve.specs.Graphs.{edges, Extends, Searches}
use Rattle.route_solve.specs.Ready.{ready_at}
use Rattle.route_solve.proofs.search.Search.visit_from.Given as goal

abbrev pub invariant-loop-w : goal.invariant-loop-w
invariant-loop-w l = record {
  search : Searches l.graph l.matching l.self;
  further : Extends l.fn.self l.self;
  made : (m x : ℕ) → m / 64 < l.w → l.graph.low ≤ m → Offers (edges l.graph) m (ready_at l.fn.self.ways.items l.pos) → place_of l.matching.choice.items m ≡ Some x → is_reached l.self.visited.items x ≡ true;
}
