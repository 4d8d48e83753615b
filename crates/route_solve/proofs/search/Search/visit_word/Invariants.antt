use Rattle.route_solve.specs.Graphs.{Extends, Searches}
use Rattle.route_solve.specs.Capacities.{at}
use Rattle.route_solve.proofs.search.Search.visit_word.Given as goal

abbrev pub invariant-loop-link : goal.invariant-loop-link
invariant-loop-link l = record {
  search : Searches l.graph l.matching l.self;
  further : Extends l.fn.self l.self;
}

abbrev pub decreases-loop-link : goal.decreases-loop-link
decreases-loop-link l = at l.self.left l.w
