use Rattle.std.proofs.Common.{◌≡◌, ◌+◌, ◌*◌, length, drop}
use Rattle.std.specs.Prelude.{false}
use Rattle.aml_marks.specs.Marked.{count_at, a_term, a_field, turns_of, to_end, all_operands}
use Rattle.aml_terms.proofs.skip.+skip.Given as goal

abbrev pub decreases-skip_long_term : goal.decreases-skip_long_term
decreases-skip_long_term l = 16 * l.levels + 0

abbrev pub decreases-skip_term : goal.decreases-skip_term
decreases-skip_term l = 16 * l.levels + 1

abbrev pub decreases-skip_arguments : goal.decreases-skip_arguments
decreases-skip_arguments l = 16 * l.levels + 2

abbrev pub decreases-skip_field : goal.decreases-skip_field
decreases-skip_field l = 16 * l.levels + 3

abbrev pub decreases-skip_name_or_term : goal.decreases-skip_name_or_term
decreases-skip_name_or_term l = 16 * l.levels + 2

abbrev pub decreases-skip_target : goal.decreases-skip_target
decreases-skip_target l = 16 * l.levels + 3

abbrev pub decreases-skip_items : goal.decreases-skip_items
decreases-skip_items l = 16 * l.levels + 2

abbrev pub decreases-skip_fields : goal.decreases-skip_fields
decreases-skip_fields l = 16 * l.levels + 4

abbrev pub decreases-skip_operand : goal.decreases-skip_operand
decreases-skip_operand l = 16 * l.levels + 5

abbrev pub decreases-skip_operands : goal.decreases-skip_operands
decreases-skip_operands l = 16 * l.levels + 6

abbrev pub decreases-skip_row : goal.decreases-skip_row
decreases-skip_row l = 16 * l.levels + 7

abbrev pub decreases-skip_row_term : goal.decreases-skip_row_term
decreases-skip_row_term l = 16 * l.levels + 8

abbrev pub decreases-skip_coded : goal.decreases-skip_coded
decreases-skip_coded l = 16 * l.levels + 9

abbrev pub decreases-skip_call : goal.decreases-skip_call
decreases-skip_call l = 16 * l.levels + 9

abbrev pub invariant-skip_arguments-arguments : goal.invariant-skip_arguments-arguments
invariant-skip_arguments-arguments l = (turns_of (a_term (count_at l.fn.marks) l.fn.levels false) l.left l.cursor).1 ≡ (turns_of (a_term (count_at l.fn.marks) l.fn.levels false) l.fn.count l.fn.cursor).1

abbrev pub decreases-skip_arguments-arguments : goal.decreases-skip_arguments-arguments
decreases-skip_arguments-arguments l = l.left

abbrev pub invariant-skip_items-items : goal.invariant-skip_items-items
invariant-skip_items-items l = (to_end (a_term (count_at l.fn.marks) l.fn.levels l.fn.element) l.left l.cursor).1 ≡ (to_end (a_term (count_at l.fn.marks) l.fn.levels l.fn.element) (length l.fn.cursor.rest) l.fn.cursor).1

abbrev pub decreases-skip_items-items : goal.decreases-skip_items-items
decreases-skip_items-items l = l.left

abbrev pub invariant-skip_fields-fields : goal.invariant-skip_fields-fields
invariant-skip_fields-fields l = (to_end (a_field (a_term (count_at l.fn.marks) l.fn.levels)) l.left l.cursor).1 ≡ (to_end (a_field (a_term (count_at l.fn.marks) l.fn.levels)) (length l.fn.cursor.rest) l.fn.cursor).1

abbrev pub decreases-skip_fields-fields : goal.decreases-skip_fields-fields
decreases-skip_fields-fields l = l.left

abbrev pub invariant-skip_operands-operands : goal.invariant-skip_operands-operands
invariant-skip_operands-operands l = (all_operands (a_term (count_at l.fn.marks) l.fn.levels) (drop l.kind-index l.kinds) l.cursor).1 ≡ (all_operands (a_term (count_at l.fn.marks) l.fn.levels) l.fn.kinds l.fn.cursor).1
