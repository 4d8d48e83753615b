use Rattle.std.proofs.Common.{◌≡◌, drop}
use Rattle.aml_grammar.specs.Shape.{parts_of}
use Rattle.aml_grammar.specs.Apart.{part_at}
use Rattle.aml_marks.specs.Marked.{count_at, a_term, all_operands}
use Rattle.aml_terms.proofs.operands.to_kind.Given as goal

abbrev pub invariant-operands : goal.invariant-operands
invariant-operands l = part_at (parts_of (all_operands (a_term (count_at l.fn.marks) l.fn.levels) (drop l.kind-index l.kinds) l.cursor).0) l.left ≡ part_at (parts_of (all_operands (a_term (count_at l.fn.marks) l.fn.levels) l.fn.kinds l.fn.cursor).0) l.fn.index
