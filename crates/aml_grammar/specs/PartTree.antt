-- What a reader of terms in memory stands at.
use Rattle.std.specs.Prelude.{map}
use Rattle.aml_grammar.specs.declared.opcode.TermCode.TheVariants as codes
use Rattle.aml_grammar.specs.declared.term_part.TermPart.{TermPart}
use Rattle.aml_grammar.specs.declared.term_part.TermPart.TheVariants as parts
use Rattle.aml_grammar.specs.Tree.{Tree, term, no_parts, Trees, no_trees}
use Rattle.aml_grammar.specs.Shape.{trees_of}
use Rattle.aml_grammar.specs.View.{tree_view}

abbrev pub part_tree : TermPart → Tree
part_tree (parts.Term t) = tree_view t.now
part_tree (parts.List ts) = term codes.Name no_parts

abbrev pub part_list : TermPart → Trees
part_list (parts.Term t) = no_trees
part_list (parts.List ts) = trees_of (map tree_view ts.now)
