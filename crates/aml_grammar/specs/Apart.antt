-- A term taken apart: its code, its operands, and the items of a list.
use Rattle.std.specs.Prelude.{◌≡◌, ℕ, zero, suc, List, Option, Some, None, Ok, Err}
use Rattle.ar_space.specs.declared.refusal.Refusal.TheVariants as refusals
use Rattle.ar_space.specs.declared.refusal.NameFault.TheVariants.{BadName}
use Rattle.ar_space.specs.Outcome.{Outcome}
use Rattle.aml_path.specs.Paths.{Name}
use Rattle.aml_grammar.specs.declared.opcode.TermCode.{TermCode}
use Rattle.aml_grammar.specs.declared.term_reader.OperandView.{OperandView}
use Rattle.aml_grammar.specs.declared.term_reader.OperandView.TheVariants as views
use Rattle.aml_grammar.specs.declared.term_reader.Item.{Item}
use Rattle.aml_grammar.specs.Tree.{Tree, term, Part, null, name, number, bytes, inner, list, Parts, no_parts, part, Trees, no_trees, tree}

abbrev pub code_of : Tree → TermCode
code_of (term code ps) = code

-- the operand at a place from 0, where there is one
abbrev pub part_at : Parts → ℕ → Option Part
part_at no_parts i = None
part_at (part p ps) zero = Some p
part_at (part p ps) (suc i) = part_at ps i

abbrev pub operand_of : Tree → ℕ → Option Part
operand_of (term code ps) i = part_at ps i

abbrev pub IsName : Option Part → Type 0
IsName o = (n : Name) × (o ≡ Some (name n))

abbrev pub IsBytes : Option Part → Type 0
IsBytes o = (bs : List ℕ) × (o ≡ Some (bytes bs))

abbrev pub name_of : Option Part → Outcome Name
name_of (Some (name n)) = Ok n
name_of _ = Err (refusals.Name BadName)

abbrev pub bytes_of : Option Part → Outcome (List ℕ)
bytes_of (Some (bytes bs)) = Ok bs
bytes_of _ = Err (refusals.Name BadName)

module _ {R : Type 0} (tree_at : R → Tree) (list_at : R → Trees) where
  -- what a view shows of an operand
  abbrev pub Shows : OperandView R → Option Part → Type 0
  Shows views.Absent o = o ≡ None
  Shows views.Null o = o ≡ Some null
  Shows views.Name o = IsName o
  Shows (views.Number n) o = o ≡ Some (number n)
  Shows views.Bytes o = IsBytes o
  Shows (views.Term r) o = o ≡ Some (inner (tree_at r))
  Shows (views.List r) o = o ≡ Some (list (list_at r))

  -- the list of a first item and the others
  abbrev pub first_of : Option (Item R) → Trees
  first_of None = no_trees
  first_of (Some i) = tree (tree_at i.first) (list_at i.rest)
