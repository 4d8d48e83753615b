use Rattle.std.proofs.Common.{◌+◌, ◌*◌, [], drop, map}
use Rattle.ar_space.specs.Change.{Same}
use Rattle.aml_world.specs.state.Given.{given_of, givens}
use Rattle.aml_world.specs.state.Drafted.{drafted}
use Rattle.aml_world.specs.state.Importing.{each_imported, package_imported}
use Rattle.aml_world.proofs.state.import.+importing.Given as goal

abbrev pub decreases-import_by : goal.decreases-import_by
decreases-import_by g l = 4 * l.levels + 1

abbrev pub decreases-import_package : goal.decreases-import_package
decreases-import_package g l = 4 * l.levels + 0

abbrev pub decreases-import_elements : goal.decreases-import_elements
decreases-import_elements g l = 4 * l.levels + 3

abbrev pub decreases-import_each : goal.decreases-import_each
decreases-import_each g l = 4 * l.levels + 2

abbrev pub invariant-import_each-loop-datum : goal.invariant-import_each-loop-datum
invariant-import_each-loop-datum g l = Same (each_imported (package_imported l.levels) (givens (map given_of l.list)) []) (drafted l.world l.fn.draft) (each_imported (package_imported l.levels) (givens (map given_of (drop l.datum-index l.list))) l.done) (drafted l.world l.draft)
