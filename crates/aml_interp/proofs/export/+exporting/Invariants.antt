use Rattle.std.proofs.Common.{◌+◌, ◌*◌, [], drop, map}
use Rattle.ar_space.specs.Change.{Same}
use Rattle.aml_world.specs.state.Given.{given_of}
use Rattle.aml_meaning.specs.Exporting.{each_exported, package_exported}
use Rattle.aml_interp.proofs.export.+exporting.Given as goal

abbrev pub decreases-value_exported : goal.decreases-value_exported
decreases-value_exported g l = 9 * l.levels + 1

abbrev pub decreases-package_exported : goal.decreases-package_exported
decreases-package_exported g l = 9 * l.levels + 0

abbrev pub decreases-elements_exported : goal.decreases-elements_exported
decreases-elements_exported g l = 9 * l.levels + 8

abbrev pub decreases-each_exported : goal.decreases-each_exported
decreases-each_exported g l = 9 * l.levels + 7

abbrev pub decreases-element_exported : goal.decreases-element_exported
decreases-element_exported g l = 9 * l.levels + 6

abbrev pub decreases-held_exported : goal.decreases-held_exported
decreases-held_exported g l = 9 * l.levels + 5

abbrev pub decreases-name_exported : goal.decreases-name_exported
decreases-name_exported g l = 9 * l.levels + 4

abbrev pub decreases-use_exported : goal.decreases-use_exported
decreases-use_exported g l = 9 * l.levels + 3

abbrev pub invariant-each_exported-loop-element : goal.invariant-each_exported-loop-element
invariant-each_exported-loop-element g l = Same (each_exported g.S.Space.accesses (package_exported g.S.Space.accesses l.levels) l.elements []) l.fn.run (each_exported g.S.Space.accesses (package_exported g.S.Space.accesses l.levels) (drop l.element-index l.elements) (map given_of l.done.items)) l.run
