-- The parts of a tree from a place on: what is there, and what is gone.
use Rattle.std.specs.Prelude.{◌≡◌, ℕ, zero, suc, ◌+◌, ◌-◌, ◌<◌, ◌≤◌, List, [], ◌∷◌, Option, Some, None, refl}
use Rattle.std.proofs.Common.{ap, arith}
use Rattle.aml_grammar.specs.declared.opcode.TermCode.{TermCode}
use Rattle.aml_grammar.specs.Tree.{Tree, term, Part, null, name, number, bytes, inner, list, Parts, no_parts, part, Trees, no_trees, tree}
use Rattle.aml_grammar.specs.Shape.{parts_of, trees_of}
use Rattle.aml_grammar.specs.Apart.{code_of, part_at, operand_of}
use Rattle.aml_terms.specs.Copying.{from_size, operands_from, operands_of, part_size, parts_from, parts_in, parts_size, size_from, tree_size, trees_list, trees_size}

from_start : (ps : Parts) → from_size ps 0 ≡ parts_size ps
from_start no_parts = refl
from_start (part p ps) = ap (λ n. suc (part_size p + n)) (from_start ps)

pub from_tree : (t : Tree) → from_size (parts_in t) 0 < tree_size t
from_tree (term c ps) = omega (arith, from_start ps)

pub there_from : (ps : Parts) (i : ℕ) (p : Part) → part_at ps i ≡ Some p → (parts_from ps i ≡ p ∷ parts_from ps (suc i)) × (from_size ps i ≡ suc (part_size p + from_size ps (suc i)))
there_from no_parts i p e = absurd (cc e)
there_from (part q ps) zero p e = let same : q ≡ p = cc e in (ap (λ x. x ∷ parts_from ps zero) same, ap (λ x. suc (part_size x + from_size ps zero)) same)
there_from (part q ps) (suc i) p e = there_from ps i p e

pub gone_from : (ps : Parts) (i : ℕ) → part_at ps i ≡ None → parts_from ps i ≡ []
gone_from no_parts i e = refl
gone_from (part q ps) zero e = absurd (cc e)
gone_from (part q ps) (suc i) e = gone_from ps i e

all_from : (ps : Parts) → parts_of (parts_from ps zero) ≡ ps
all_from no_parts = refl
all_from (part p ps) = ap (part p) (all_from ps)

-- a tree is its code and its parts from the start
pub tree_whole : (t : Tree) → term (code_of t) (parts_of (parts_from (parts_in t) zero)) ≡ t
tree_whole (term c ps) = ap (term c) (all_from ps)

pub operand_there : (t : Tree) (i : ℕ) (p : Part) → operand_of t i ≡ Some p → operands_from t i ≡ p ∷ operands_from t (i + 1)
operand_there (term c ps) i p e = let k : i + 1 ≡ suc i = omega arith in rw k ((there_from ps i p e).0)

pub size_there : (t : Tree) (i : ℕ) (p : Part) → operand_of t i ≡ Some p → size_from t i ≡ suc (part_size p + size_from t (i + 1))
size_there (term c ps) i p e = let k : i + 1 ≡ suc i = omega arith in rw k ((there_from ps i p e).1)

pub operand_gone : (t : Tree) (i : ℕ) → operand_of t i ≡ None → operands_from t i ≡ []
operand_gone (term c ps) i e = gone_from ps i e
