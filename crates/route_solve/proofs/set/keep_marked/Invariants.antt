use Rattle.std.proofs.lemmas.List.Filters.{FiltersInPlace}
use Rattle.route_model.specs.Placement.{is_reached}
use Rattle.route_solve.proofs.set.keep_marked.Given as goal

abbrev pub invariant-loop-i : goal.invariant-loop-i
invariant-loop-i l = FiltersInPlace (is_reached l.marks) l.initial.places.items l.places.items l.kept l.i
