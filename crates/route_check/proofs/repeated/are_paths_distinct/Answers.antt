use Rattle.aml_path.specs.Paths.{path_cmp}
use Rattle.route_check.proofs.Ascending.{path_exact, ascending_distinct}
use Rattle.route_check.proofs.Loops.{yes, no}
use Rattle.route_check.proofs.repeated.are_paths_distinct.Goals as goal

pub returns-in-Less : goal.returns-in-Less
returns-in-Less g c = yes (ascending_distinct path_cmp path_exact g.T.Named.path c.args.xs.now c.in-Less.ensures)

pub returns-in-Equal : goal.returns-in-Equal
returns-in-Equal g c = no c.in-Equal.ensures
