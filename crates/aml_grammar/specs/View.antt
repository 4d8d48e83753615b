-- The tree that a term stands for.
use Rattle.std.specs.Prelude.{List, map}
use Rattle.aml_grammar.specs.Tree.{Tree, term, Part, null, name, number, bytes, inner, list}
use Rattle.aml_grammar.specs.declared.term.Operand.{Operand, fold-Operand}
use Rattle.aml_grammar.specs.declared.term.Operand.TheOpen.{Operand-F, Term-F}
use Rattle.aml_grammar.specs.declared.term.Term.{Term, fold-Term}
use Rattle.aml_grammar.specs.Shape.{parts_of, trees_of}

-- one level, with what is inside already seen
abbrev pub part_step : Operand-F Part Tree → Part
part_step Operand-F.Null = null
part_step (Operand-F.Name n) = name n
part_step (Operand-F.Number n) = number n
part_step (Operand-F.Bytes v) = bytes v.items
part_step (Operand-F.Term t) = inner t
part_step (Operand-F.List v) = list (trees_of v.items)

abbrev pub tree_step : Term-F Part Tree → Tree
tree_step t = term t.code (parts_of t.operands.items)

abbrev pub part_view : Operand → Part
part_view = fold-Operand Part Tree part_step tree_step

abbrev pub tree_view : Term → Tree
tree_view = fold-Term Part Tree part_step tree_step

abbrev pub parts_view : List Operand → List Part
parts_view = map part_view

abbrev pub trees_view : List Term → List Tree
trees_view = map tree_view
