use Rattle.std.proofs.Common.{◌≡◌}
use Rattle.std.specs.List.{AllAdjacentBelow}
use Rattle.std.specs.declared.cmp.Ordering.TheVariants.{Less}
use Rattle.aml_path.specs.Paths.{path_cmp}
use Rattle.route_check.proofs.steps.path_steps.Given as goal

abbrev pub invariant-loop-i : goal.invariant-loop-i
invariant-loop-i g l = AllAdjacentBelow (λ x y. path_cmp (g.T.Named.path x) (g.T.Named.path y) ≡ Less) l.xs l.i
