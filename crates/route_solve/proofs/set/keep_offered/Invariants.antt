use Rattle.std.proofs.lemmas.List.Filters.{FiltersInPlace}
use Rattle.route_model.specs.Links.{offers_of}
use Rattle.route_solve.specs.Marks.{is_offered_by}
use Rattle.route_solve.proofs.set.keep_offered.Given as goal

abbrev pub invariant-loop-i : goal.invariant-loop-i
invariant-loop-i l = FiltersInPlace (is_offered_by (offers_of l.offered.problem.now.links) l.marks) l.initial.interrupts.items l.interrupts.items l.kept l.i
