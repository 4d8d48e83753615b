-- What a reader of bytes stands at: a function of its bytes, its place and its marks.
use Rattle.std.specs.Prelude.{ℕ, List, true, false}
use Rattle.aml_grammar.specs.Tree.{Tree, Trees, no_trees}
use Rattle.aml_grammar.specs.Shape.{trees_of}
use Rattle.aml_marks.specs.Marked.{Place, a_term, an_else, a_field, with_row, turns_of, to_end, count_at, no_term}
use Rattle.aml_scan.specs.RowsAt.{row_at}
use Rattle.aml_terms.specs.declared.at.At.{At}
use Rattle.aml_terms.specs.declared.at.Kind.{Kind}
use Rattle.aml_terms.specs.declared.at.Kind.TheVariants as stood

abbrev pub tree_of : Kind → (ℕ → ℕ) → ℕ → Place → Tree
tree_of stood.Term count levels p = (a_term count levels false p).0
tree_of stood.Element count levels p = (a_term count levels true p).0
tree_of (stood.Coded place) count levels p = (with_row (a_term count levels) (row_at place) p).0
tree_of stood.Else count levels p = (an_else (a_term count levels) p).0
tree_of stood.Field count levels p = (a_field (a_term count levels) p).0
tree_of _ count levels p = no_term

-- the place behind a term or a field element
abbrev pub behind_of : Kind → (ℕ → ℕ) → ℕ → Place → Place
behind_of stood.Term count levels p = (a_term count levels false p).1
behind_of stood.Element count levels p = (a_term count levels true p).1
behind_of (stood.Coded place) count levels p = (with_row (a_term count levels) (row_at place) p).1
behind_of stood.Else count levels p = (an_else (a_term count levels) p).1
behind_of stood.Field count levels p = (a_field (a_term count levels) p).1
behind_of _ count levels p = p

abbrev pub list_of : Kind → (ℕ → ℕ) → ℕ → ℕ → Place → Trees
list_of stood.Items count levels turns p = trees_of (to_end (a_term count levels false) turns p).0
list_of stood.Elements count levels turns p = trees_of (to_end (a_term count levels true) turns p).0
list_of stood.Arguments count levels turns p = trees_of (turns_of (a_term count levels false) turns p).0
list_of stood.Fields count levels turns p = trees_of (to_end (a_field (a_term count levels)) turns p).0
list_of _ count levels turns p = no_trees

abbrev pub place_at : At → Place
place_at a = record { at = a.at; rest = a.rest.now }

abbrev pub at_tree : At → Tree
at_tree a = tree_of a.kind (count_at a.marks.now) a.levels (place_at a)

abbrev pub at_list : At → Trees
at_list a = list_of a.kind (count_at a.marks.now) a.levels a.turns (place_at a)
