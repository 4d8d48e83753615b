-- Trees copied part by part: their sizes, and the parts from a place on.
use Rattle.std.specs.Prelude.{◌≡◌, ℕ, zero, suc, ◌+◌, ◌-◌, ◌<◌, ◌≤◌, List, [], ◌∷◌, Option, Some, None, refl}
use Rattle.aml_grammar.specs.Tree.{Tree, term, Part, null, name, number, bytes, inner, list, Parts, no_parts, part, Trees, no_trees, tree}

abbrev mutual
  pub tree_size : Tree → ℕ
  tree_size (term c ps) = suc (parts_size ps)

  pub parts_size : Parts → ℕ
  parts_size no_parts = 0
  parts_size (part p ps) = suc (part_size p + parts_size ps)

  pub part_size : Part → ℕ
  part_size null = 0
  part_size (name n) = 0
  part_size (number n) = 0
  part_size (bytes bs) = 0
  part_size (inner t) = tree_size t
  part_size (list ts) = trees_size ts

  pub trees_size : Trees → ℕ
  trees_size no_trees = 0
  trees_size (tree t ts) = suc (tree_size t + trees_size ts)

abbrev pub parts_in : Tree → Parts
parts_in (term c ps) = ps

-- the parts from a place on
abbrev pub parts_from : Parts → ℕ → List Part
parts_from no_parts i = []
parts_from (part p ps) zero = p ∷ parts_from ps zero
parts_from (part p ps) (suc i) = parts_from ps i

abbrev pub from_size : Parts → ℕ → ℕ
from_size no_parts i = 0
from_size (part p ps) zero = suc (part_size p + from_size ps zero)
from_size (part p ps) (suc i) = from_size ps i

abbrev pub trees_list : Trees → List Tree
trees_list no_trees = []
trees_list (tree t ts) = t ∷ trees_list ts

-- the operands from a place on, and all of them
abbrev pub operands_from : Tree → ℕ → List Part
operands_from t i = parts_from (parts_in t) i

abbrev pub operands_of : Tree → List Part
operands_of t = operands_from t 0

abbrev pub size_from : Tree → ℕ → ℕ
size_from t i = from_size (parts_in t) i
