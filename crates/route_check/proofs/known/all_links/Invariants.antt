use Rattle.std.proofs.Common.{take}
use Rattle.std.specs.Prelude.{Contains, All}
use Rattle.route_model.specs.Links.{paths_of}
use Rattle.route_check.proofs.known.all_links.Given as goal

abbrev pub invariant-loop-path : goal.invariant-loop-path
invariant-loop-path l = All (Contains (paths_of l.links)) (take l.path-index l.paths)
