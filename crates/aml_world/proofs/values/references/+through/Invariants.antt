use Rattle.std.proofs.Common.{◌+◌, ◌*◌}
use Rattle.aml_world.proofs.values.references.+through.Given as goal

abbrev pub decreases-store_through : goal.decreases-store_through
decreases-store_through g l = 5 * l.levels + 0

abbrev pub decreases-store_over_slot : goal.decreases-store_over_slot
decreases-store_over_slot g l = 5 * l.levels + 1

abbrev pub decreases-store_in_frame : goal.decreases-store_in_frame
decreases-store_in_frame g l = 5 * l.levels + 2

abbrev pub decreases-store_in_frame_numbered : goal.decreases-store_in_frame_numbered
decreases-store_in_frame_numbered g l = 5 * l.levels + 3

abbrev pub decreases-store_at_reference : goal.decreases-store_at_reference
decreases-store_at_reference g l = 5 * l.levels + 4
