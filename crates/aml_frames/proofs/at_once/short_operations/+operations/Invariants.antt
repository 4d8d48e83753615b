use Rattle.std.proofs.Common.{◌+◌, ◌*◌}
use Rattle.aml_frames.proofs.at_once.short_operations.+operations.Given as goal

abbrev pub decreases-operation_integer : goal.decreases-operation_integer
decreases-operation_integer g l = 4 * l.levels + 0

abbrev pub decreases-operand_integer : goal.decreases-operand_integer
decreases-operand_integer g l = 4 * l.levels + 1

abbrev pub decreases-binary_without_target : goal.decreases-binary_without_target
decreases-binary_without_target g l = 4 * l.levels + 2

abbrev pub decreases-test_of_integers : goal.decreases-test_of_integers
decreases-test_of_integers g l = 4 * l.levels + 2

abbrev pub decreases-lnot_of_integer : goal.decreases-lnot_of_integer
decreases-lnot_of_integer g l = 4 * l.levels + 2

abbrev pub decreases-operator_integer : goal.decreases-operator_integer
decreases-operator_integer g l = 4 * l.levels + 3
