-- Terms whose strings and byte lists are bytes.
use Rattle.std.specs.Prelude.{◌<◌, ℕ, List, [], ◌∷◌, slice_index}
use Rattle.aml_grammar.specs.Tree.{Tree, term, Part, null, name, number, bytes, inner, list, Parts, no_parts, part, Trees, no_trees, tree}

abbrev pub AreBytes : List ℕ → Type 0
AreBytes bs = (i : ℕ) → slice_index bs i < 256

abbrev mutual
  pub PlainTree : Tree → Type 0
  PlainTree (term code ps) = PlainParts ps

  pub PlainPart : Part → Type 0
  PlainPart null = Unit {0}
  PlainPart (name n) = Unit {0}
  PlainPart (number n) = Unit {0}
  PlainPart (bytes bs) = AreBytes bs
  PlainPart (inner t) = PlainTree t
  PlainPart (list ts) = PlainTrees ts

  pub PlainParts : Parts → Type 0
  PlainParts no_parts = Unit {0}
  PlainParts (part p ps) = PlainPart p × PlainParts ps

  pub PlainTrees : Trees → Type 0
  PlainTrees no_trees = Unit {0}
  PlainTrees (tree t ts) = PlainTree t × PlainTrees ts

abbrev pub AllPlain : List Tree → Type 0
AllPlain [] = Unit {0}
AllPlain (t ∷ ts) = PlainTree t × AllPlain ts
