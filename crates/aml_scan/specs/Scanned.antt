-- Reading that makes no trees: the steps of the grammar with their values left out.
use Rattle.std.specs.Prelude.{List, Bool, Ok, Err, not, ◌&&◌}
use Rattle.ar_space.specs.Outcome.{Outcome, seen}
use Rattle.aml_arities.specs.declared.arities.Arity.{Arity}
use Rattle.aml_grammar.specs.declared.marks.Mark.{Mark}
use Rattle.aml_grammar.specs.declared.kinds.Row.{Row}
use Rattle.aml_grammar.specs.State.{State, Step}
use Rattle.aml_grammar.specs.Tree.{Tree}
use Rattle.aml_grammar.specs.Grammar.{is_nothing}

-- an outcome whose value is seen by a function, and the state beside it
abbrev pub seen_so : {A B : Type 0} → (A → B) → Outcome A × State → Outcome B × State
seen_so f p = (seen f p.0, p.1)

-- a step of whose value a function alone is known
unfoldable pub kept : {A B : Type 0} → (A → B) → Step A → Step B
kept f m s = seen_so f (m s)

-- a step whose value is forgotten: what it takes, and what it refuses
abbrev pub scanned : {A : Type 0} → Step A → Step (Unit {0})
scanned m = kept (λ _. tt) m

-- what a whole list leaves behind: the marks of its calls, and the arities after it
abbrev pub noted : Outcome (List Tree) × State → Outcome (List Mark × List Arity)
noted (Ok ts, s) = Ok (s.marks, s.arities)
noted (Err e, s) = Err e

-- its marks alone
abbrev pub marked : Outcome (List Tree) × State → Outcome (List Mark)
marked (Ok ts, s) = Ok s.marks
marked (Err e, s) = Err e

-- whether a row has no operand, nor a package for one
unfoldable pub has_no_operands : Row → Bool
has_no_operands row = not row.2 && is_nothing row.3.0
