use Rattle.std.proofs.Common.{take, map}
use Rattle.route_model.specs.Bound.{IsDistinct}
use Rattle.route_check.proofs.repeated.are_paths_apart.Given as goal

abbrev pub invariant-loop-i : goal.invariant-loop-i
invariant-loop-i g l = IsDistinct (map g.T.Named.path (take l.i l.xs))
