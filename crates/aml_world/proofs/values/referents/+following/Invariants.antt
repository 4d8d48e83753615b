use Rattle.std.proofs.Common.{◌+◌, ◌*◌}
use Rattle.aml_world.proofs.values.referents.+following.Given as goal

abbrev pub decreases-follow : goal.decreases-follow
decreases-follow g l = 7 * l.levels + 0

abbrev pub decreases-value_followed : goal.decreases-value_followed
decreases-value_followed g l = 7 * l.levels + 1

abbrev pub decreases-referent_followed : goal.decreases-referent_followed
decreases-referent_followed g l = 7 * l.levels + 2

abbrev pub decreases-element_named : goal.decreases-element_named
decreases-element_named g l = 7 * l.levels + 2

abbrev pub decreases-name_followed : goal.decreases-name_followed
decreases-name_followed g l = 7 * l.levels + 3

abbrev pub decreases-element_followed : goal.decreases-element_followed
decreases-element_followed g l = 7 * l.levels + 4

abbrev pub decreases-held_followed : goal.decreases-held_followed
decreases-held_followed g l = 7 * l.levels + 5

abbrev pub decreases-declared_followed : goal.decreases-declared_followed
decreases-declared_followed g l = 7 * l.levels + 3

abbrev pub decreases-slot_followed : goal.decreases-slot_followed
decreases-slot_followed g l = 7 * l.levels + 2

abbrev pub decreases-reference_followed : goal.decreases-reference_followed
decreases-reference_followed g l = 7 * l.levels + 6
