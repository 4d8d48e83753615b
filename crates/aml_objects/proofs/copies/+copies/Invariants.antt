use Rattle.std.proofs.Common.{◌+◌, ◌*◌, [], drop}
use Rattle.ar_space.specs.Change.{Same}
use Rattle.aml_objects.specs.Copies.{copies_of, package_copy}
use Rattle.aml_objects.proofs.copies.+copies.Given as goal

abbrev pub decreases-copy_value : goal.decreases-copy_value
decreases-copy_value l = 6 * l.levels + 1

abbrev pub decreases-copy_package : goal.decreases-copy_package
decreases-copy_package l = 6 * l.levels + 0

abbrev pub decreases-copy_whole : goal.decreases-copy_whole
decreases-copy_whole l = 6 * l.levels + 5

abbrev pub decreases-copy_each : goal.decreases-copy_each
decreases-copy_each l = 6 * l.levels + 4

abbrev pub decreases-copy_element : goal.decreases-copy_element
decreases-copy_element l = 6 * l.levels + 3

abbrev pub decreases-copy_held : goal.decreases-copy_held
decreases-copy_held l = 6 * l.levels + 2

abbrev pub invariant-copy_each-loop-element : goal.invariant-copy_each-loop-element
invariant-copy_each-loop-element l = Same (copies_of (package_copy l.levels) l.elements []) l.fn.heap (copies_of (package_copy l.levels) (drop l.element-index l.elements) l.done) l.heap
