use Rattle.std.proofs.Common.{Bool, List, sym, subst}
use Rattle.route_solve.specs.Graphs.{IsLeastLimitFor}
use Rattle.route_solve.proofs.solver.Solver.search.Goals as goal

pub show-requires-clause-limit : goal.show-requires-clause-limit
show-requires-clause-limit c = subst (λ (bs : List Bool). IsLeastLimitFor c.args.self.problem.now c.greatest_wired.result c.assign-limit.result bs) (sym c.deref-6.ensures.value) c.assign-limit.ensures.limit
