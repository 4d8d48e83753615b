-- By what the steps that are left become fewer in the rule of a term.
use Rattle.std.specs.Prelude.{◌≡◌, ℕ, Ok, Err}
use Rattle.ar_space.specs.Outcome.{Outcome}
use Rattle.aml_grammar.specs.declared.opcode.TermCode.TheVariants.{Name}
use Rattle.aml_grammar.specs.Tree.{Tree, Trees, no_trees}
use Rattle.aml_grammar.specs.Apart.{code_of, operand_of}
use Rattle.aml_world.specs.state.State.{State}
use Rattle.aml_world.specs.state.Run.{Run}
use Rattle.aml_meaning.specs.declared.flow.Flow.{Flow}
use Rattle.aml_meaning.specs.Tasks.{Task}
use Rattle.aml_meaning.specs.Terms.{list_of}
use Rattle.aml_meaning.specs.TargetTerms.{target_at}
use Rattle.aml_meaning.specs.DataTerms.{named_element}
use Rattle.aml_laws.specs.Declares.{IsItem}

-- the elements of a package: the list that is its second operand
abbrev pub listed : Outcome Trees → Trees
listed (Ok ts) = ts
listed (Err e) = no_trees

abbrev pub elements_of : Tree → Trees
elements_of t = listed (list_of (operand_of t 1))

-- from so many steps to so many: by parts that are evaluated, by targets that operands of these terms name, and by names among their
-- elements, one after another; ev: what a part evaluates to
pub data TakenBy {S : Type 0} (ev : Task → Run S Flow) (These : Task → Type 0) : ℕ → ℕ → Type 0 where
  none : (n : ℕ) → TakenBy ev These n n
  part : (u : Task) (w : State S) (n : ℕ) → TakenBy ev These n (ev u (w, n)).1.1
  target : (t : Task) (i : ℕ) (w : State S) (n : ℕ) → These t → TakenBy ev These n (target_at ev t.scope t.depth t.term i (w, n)).1.1
  element : (t : Task) (e : Tree) (w : State S) (n : ℕ) → These t → IsItem e (elements_of t.term) → code_of e ≡ Name → TakenBy ev These n (named_element ev t.scope e (w, n)).1.1
  after : (n m k : ℕ) → TakenBy ev These n m → TakenBy ev These m k → TakenBy ev These n k

-- by parts, and the targets and the elements of one term; and by parts alone
abbrev pub TakenInTerm : {S : Type 0} → (Task → Run S Flow) → Task → ℕ → ℕ → Type 0
TakenInTerm ev t n m = TakenBy ev (λ u. u ≡ t) n m

abbrev pub TakenByParts : {S : Type 0} → (Task → Run S Flow) → ℕ → ℕ → Type 0
TakenByParts ev n m = TakenBy ev (λ u. ⊥) n m
