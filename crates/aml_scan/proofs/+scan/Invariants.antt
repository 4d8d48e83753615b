use Rattle.std.proofs.Common.{ℕ, ◌+◌, ◌-◌, ◌*◌, ◌≤◌, length, drop}
use Rattle.ar_space.specs.Change.{Same}
use Rattle.aml_grammar.specs.declared.context.Position.TheVariants as positions
use Rattle.aml_grammar.specs.State.{times, until_end}
use Rattle.aml_grammar.specs.Grammar.{by_arities, term_at, field, operands, nothing_earlier}
use Rattle.aml_scan.specs.Scanned.{scanned}
use Rattle.aml_scan.proofs.+scan.Given as goal

-- A call that goes one level down may go anywhere; else it goes to a lower rank.

abbrev pub decreases-terms::coded_term : goal.decreases-terms::coded_term
decreases-terms::coded_term g l = 16 * l.levels + 0

abbrev pub decreases-terms::named : goal.decreases-terms::named
decreases-terms::named g l = 16 * l.levels + 0

abbrev pub decreases-terms::term : goal.decreases-terms::term
decreases-terms::term g l = 16 * l.levels + 1

abbrev pub decreases-terms::arguments : goal.decreases-terms::arguments
decreases-terms::arguments g l = 16 * l.levels + 2

abbrev pub decreases-terms::items : goal.decreases-terms::items
decreases-terms::items g l = 16 * l.levels + 2

abbrev pub decreases-places::connection : goal.decreases-places::connection
decreases-places::connection g l = 16 * l.levels + 3

abbrev pub decreases-places::super_name : goal.decreases-places::super_name
decreases-places::super_name g l = 16 * l.levels + 3

abbrev pub decreases-terms::invocation : goal.decreases-terms::invocation
decreases-terms::invocation g l = 16 * l.levels + 3

abbrev pub decreases-places::connect_field : goal.decreases-places::connect_field
decreases-places::connect_field g l = 16 * l.levels + 4

abbrev pub decreases-places::simple_name : goal.decreases-places::simple_name
decreases-places::simple_name g l = 16 * l.levels + 4

abbrev pub decreases-places::target : goal.decreases-places::target
decreases-places::target g l = 16 * l.levels + 4

abbrev pub decreases-terms::term_list : goal.decreases-terms::term_list
decreases-terms::term_list g l = 16 * l.levels + 4

abbrev pub decreases-terms::element_list : goal.decreases-terms::element_list
decreases-terms::element_list g l = 16 * l.levels + 4

abbrev pub decreases-terms::named_term : goal.decreases-terms::named_term
decreases-terms::named_term g l = 16 * l.levels + 4

abbrev pub decreases-if_else::packed_list : goal.decreases-if_else::packed_list
decreases-if_else::packed_list g l = 16 * l.levels + 4

abbrev pub decreases-if_else::else_term : goal.decreases-if_else::else_term
decreases-if_else::else_term g l = 16 * l.levels + 5

abbrev pub decreases-places::field : goal.decreases-places::field
decreases-places::field g l = 16 * l.levels + 5

abbrev pub decreases-if_else::else_part : goal.decreases-if_else::else_part
decreases-if_else::else_part g l = 16 * l.levels + 6

abbrev pub decreases-places::fields : goal.decreases-places::fields
decreases-places::fields g l = 16 * l.levels + 6

abbrev pub decreases-terms::operand : goal.decreases-terms::operand
decreases-terms::operand g l = 16 * l.levels + 8

abbrev pub decreases-terms::operands : goal.decreases-terms::operands
decreases-terms::operands g l = 16 * l.levels + 9

abbrev pub decreases-terms::packed_operands : goal.decreases-terms::packed_operands
decreases-terms::packed_operands g l = 16 * l.levels + 10

abbrev pub decreases-terms::row_operands : goal.decreases-terms::row_operands
decreases-terms::row_operands g l = 16 * l.levels + 11

abbrev pub decreases-if_else::if_term : goal.decreases-if_else::if_term
decreases-if_else::if_term g l = 16 * l.levels + 12

abbrev pub decreases-terms::row_term : goal.decreases-terms::row_term
decreases-terms::row_term g l = 16 * l.levels + 13

abbrev pub invariant-terms::arguments-arguments : goal.invariant-terms::arguments-arguments
invariant-terms::arguments-arguments g l = record {
  so_far : Same (scanned (times (term_at by_arities l.levels positions.TermArg l.scope l.context) l.count)) l.fn.reader
      (scanned (times (term_at by_arities l.levels positions.TermArg l.scope l.context) (l.count - l.counter))) l.reader;
  kept : length l.reader.rest ≤ length l.fn.reader.rest;
}

abbrev pub invariant-terms::items-items : goal.invariant-terms::items-items
invariant-terms::items-items g l = record {
  turns : ℕ;
  so_far : Same (scanned (until_end (term_at by_arities l.levels l.position l.scope l.context) (length l.fn.reader.rest))) l.fn.reader (scanned (until_end (term_at by_arities l.levels l.position l.scope l.context) turns)) l.reader;
  room : length l.reader.rest ≤ turns;
  kept : length l.reader.rest ≤ length l.fn.reader.rest;
}

abbrev pub decreases-terms::items-items : goal.decreases-terms::items-items
decreases-terms::items-items g l = length l.reader.rest

abbrev pub invariant-places::fields-fields : goal.invariant-places::fields-fields
invariant-places::fields-fields g l = record {
  turns : ℕ;
  so_far : Same (scanned (until_end (field (term_at by_arities l.levels) l.scope l.context) (length l.fn.reader.rest))) l.fn.reader (scanned (until_end (field (term_at by_arities l.levels) l.scope l.context) turns)) l.reader;
  room : length l.reader.rest ≤ turns;
  kept : length l.reader.rest ≤ length l.fn.reader.rest;
}

abbrev pub decreases-places::fields-fields : goal.decreases-places::fields-fields
decreases-places::fields-fields g l = length l.reader.rest

abbrev pub invariant-terms::operands-operands : goal.invariant-terms::operands-operands
invariant-terms::operands-operands g l = record {
  so_far : Same (scanned (operands (term_at by_arities l.levels) l.start.scope.now l.start.context l.start.at l.kinds nothing_earlier)) l.fn.reader
      (scanned (operands (term_at by_arities l.levels) l.start.scope.now l.start.context l.start.at (drop l.kind-index l.kinds) l.earlier)) l.reader;
  kept : length l.reader.rest ≤ length l.fn.reader.rest;
}
