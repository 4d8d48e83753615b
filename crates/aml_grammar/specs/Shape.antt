-- Operands and terms one after another.
use Rattle.std.specs.Prelude.{List, [], ◌∷◌}
use Rattle.aml_grammar.specs.Tree.{Tree, Part, Parts, no_parts, part, Trees, no_trees, tree}

abbrev pub parts_of : List Part → Parts
parts_of [] = no_parts
parts_of (p ∷ ps) = part p (parts_of ps)

abbrev pub trees_of : List Tree → Trees
trees_of [] = no_trees
trees_of (t ∷ ts) = tree t (trees_of ts)
