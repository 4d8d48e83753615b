use Rattle.std.proofs.Common.{◌≡◌, ◌<◌, ◌+◌, ℕ, get_or, []}
use Rattle.std.specs.declared.cmp.Ordering.TheVariants.{Less}
use Rattle.aml_path.specs.Paths.{path_cmp}
use Rattle.route_model.specs.Links.{paths_of}
use Rattle.route_solve.proofs.conditions.links_ascend.Given as goal

abbrev pub invariant-loop-i : goal.invariant-loop-i
invariant-loop-i l = (k : ℕ) → k + 1 < l.i → path_cmp (get_or (paths_of l.links) k []) (get_or (paths_of l.links) (k + 1) []) ≡ Less
