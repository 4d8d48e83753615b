use Rattle.std.proofs.Common.{◌≡◌, ◌≤◌, ◌+◌, ◌*◌, ◌++◌, length, map}
use Rattle.aml_grammar.specs.View.{part_view, tree_view}
use Rattle.aml_terms.specs.Copying.{tree_size, trees_size, size_from, operands_from, operands_of, trees_list}
use Rattle.aml_terms.proofs.copying.+copy.Given as goal

abbrev pub decreases-copied_term : goal.decreases-copied_term
decreases-copied_term g l = 2 * tree_size (g.R.TermReader.tree l.part)

abbrev pub decreases-copied_operands : goal.decreases-copied_operands
decreases-copied_operands g l = 2 * size_from (g.R.TermReader.tree l.part) 0 + 1

abbrev pub decreases-copied_operand : goal.decreases-copied_operand
decreases-copied_operand g l = 2 * size_from (g.R.TermReader.tree l.part) l.index

abbrev pub decreases-copied_list : goal.decreases-copied_list
decreases-copied_list g l = 2 * trees_size (g.R.TermReader.list l.list) + 1

abbrev pub invariant-copied_list-items : goal.invariant-copied_list-items
invariant-copied_list-items g l = record {
  so_far : map tree_view l.terms.items ++ trees_list (g.R.TermReader.list l.rest) ≡ trees_list (g.R.TermReader.list l.fn.list);
  left : trees_size (g.R.TermReader.list l.rest) ≤ trees_size (g.R.TermReader.list l.fn.list);
}

abbrev pub decreases-copied_list-items : goal.decreases-copied_list-items
decreases-copied_list-items g l = trees_size (g.R.TermReader.list l.rest)

abbrev pub invariant-copied_operands-operands : goal.invariant-copied_operands-operands
invariant-copied_operands-operands g l = record {
  so_far : map part_view l.operands.items ++ operands_from (g.R.TermReader.tree l.fn.part) (length l.operands.items) ≡ operands_of (g.R.TermReader.tree l.fn.part);
  left : size_from (g.R.TermReader.tree l.fn.part) (length l.operands.items) ≤ size_from (g.R.TermReader.tree l.fn.part) 0;
}

abbrev pub decreases-copied_operands-operands : goal.decreases-copied_operands-operands
decreases-copied_operands-operands g l = size_from (g.R.TermReader.tree l.fn.part) (length l.operands.items)
