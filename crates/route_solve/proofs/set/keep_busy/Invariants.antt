use Rattle.std.specs.Prelude.{◌==◌}
use Rattle.std.proofs.lemmas.List.Filters.{FiltersInPlace}
use Rattle.route_model.specs.Routing.{wired_to}
use Rattle.route_solve.proofs.set.keep_busy.Given as goal

abbrev pub invariant-loop-i : goal.invariant-loop-i
invariant-loop-i l = FiltersInPlace (λ n. wired_to l.wired n == l.count) l.initial.interrupts.items l.interrupts.items l.kept l.i
