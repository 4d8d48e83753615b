-- What follows for copies.
use Rattle.std.specs.Prelude.{◌≡◌, ℕ, zero, suc, ◌+◌, List, [], ◌∷◌, ◌++◌, length, Some, None, Ok, refl}
use Rattle.std.proofs.Common.{◌∙◌, sym, ap, append_assoc}
use Rattle.std.proofs.lemmas.List.{append-nil, map_push}
use Rattle.ar_space.proofs.Outcomes.{answering}
use Rattle.aml_grammar.specs.Tree.{Tree, Part, Trees, no_trees, tree}
use Rattle.aml_grammar.specs.Shape.{trees_of}
use Rattle.aml_grammar.specs.Apart.{operand_of}
use Rattle.aml_grammar.specs.declared.term.Operand.{the_lemmas}
use Rattle.aml_terms.specs.Copying.{operands_from, trees_list}
use Rattle.aml_terms.proofs.CopiedParts.{tree_whole, operand_there, operand_gone}

pub operands_end : (t : Tree) (i : ℕ) (front whole : List Part) → operand_of t i ≡ None → front ++ operands_from t i ≡ whole → front ≡ whole
operands_end t i front whole gone so = sym (append-nil front) ∙ ap (λ l. front ++ l) (sym (operand_gone t i gone)) ∙ so

pub operands_more : (t : Tree) (i : ℕ) (p : Part) (front pushed whole : List Part) → operand_of t i ≡ Some p → pushed ≡ front ++ p ∷ [] → front ++ operands_from t i ≡ whole → pushed ++ operands_from t (i + 1) ≡ whole
operands_more t i p front pushed whole there is so = ap (λ l. l ++ operands_from t (i + 1)) is ∙ append_assoc front (p ∷ []) (operands_from t (i + 1)) ∙ ap (λ l. front ++ l) (sym (operand_there t i p there)) ∙ so

list_whole : (ts : Trees) → trees_of (trees_list ts) ≡ ts
list_whole no_trees = refl
list_whole (tree t ts) = ap (tree t) (list_whole ts)

pub list_copied : (items : List Tree) (ts : Trees) → items ≡ trees_list ts → trees_of items ≡ ts
list_copied items ts is = ap trees_of is ∙ list_whole ts

pub ruleset copying = (tree_whole, map_push, the_lemmas, answering)
