-- The operands of a term in memory are those of its tree.
use Rattle.std.proofs.Common.{◌≡◌, ℕ, zero, suc, ◌<◌, ◌≤◌, List, [], ◌∷◌, length, map, get_or, Some, None, refl, arith}
use Rattle.aml_grammar.specs.declared.term.Operand.{Operand, the_lemmas}
use Rattle.aml_grammar.specs.declared.term.Term.{Term}
use Rattle.aml_grammar.specs.Tree.{term}
use Rattle.aml_grammar.specs.Shape.{parts_of}
use Rattle.aml_grammar.specs.View.{part_view, tree_view}
use Rattle.aml_grammar.specs.Apart.{part_at, operand_of}

tree_is : (t : Term) → tree_view t ≡ term t.code (parts_of (map part_view t.operands.items))
tree_is t = search the_lemmas

part_there : (os : List Operand) (i : ℕ) (d : Operand) → i < length os → part_at (parts_of (map part_view os)) i ≡ Some (part_view (get_or os i d))
part_there [] i d lt = absurd (omega arith)
part_there (o ∷ os) zero d lt = refl
part_there (o ∷ os) (suc i) d lt = part_there os i d (omega arith)

part_absent : (os : List Operand) (i : ℕ) → length os ≤ i → part_at (parts_of (map part_view os)) i ≡ None
part_absent [] i le = refl
part_absent (o ∷ os) zero le = absurd (omega arith)
part_absent (o ∷ os) (suc i) le = part_absent os i (omega arith)

pub operand_there : (t : Term) (i : ℕ) (d : Operand) → i < length t.operands.items → operand_of (tree_view t) i ≡ Some (part_view (get_or t.operands.items i d))
operand_there t i d lt = rw (tree_is t) (part_there t.operands.items i d lt)

pub operand_absent : (t : Term) (i : ℕ) → length t.operands.items ≤ i → operand_of (tree_view t) i ≡ None
operand_absent t i le = rw (tree_is t) (part_absent t.operands.items i le)

pub ruleset operands_at = (operand_there, operand_absent)
