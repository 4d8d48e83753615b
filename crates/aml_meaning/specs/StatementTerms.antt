-- Statements (ACPI 6.5, 19.6 and 20.2.5.3).
use Rattle.std.specs.Prelude.{ℕ, zero, suc, List, Bool, true, false, Option, Some, None}
use Rattle.ar_space.specs.declared.refusal.Refusal.TheVariants as refusal
use Rattle.ar_space.specs.declared.refusal.EvaluationFault.TheVariants.{OutOfSteps, Fatal}
use Rattle.ar_space.specs.Change.{give, stop, settle, ◌>>=◌}
use Rattle.aml_path.specs.declared.segment.Seg.{Seg}
use Rattle.aml_grammar.specs.Tree.{Tree, Trees}
use Rattle.aml_grammar.specs.Apart.{operand_of}
use Rattle.aml_convert.specs.Operators.{is_true}
use Rattle.aml_world.specs.state.Run.{Run, lift}
use Rattle.aml_world.specs.state.Mutexes.{given_back_at}
use Rattle.aml_meaning.specs.declared.flow.Flow.{Flow}
use Rattle.aml_meaning.specs.declared.flow.Flow.TheVariants as flow
use Rattle.aml_meaning.specs.declared.term_kind.StatementKind.{StatementKind}
use Rattle.aml_meaning.specs.declared.term_kind.StatementKind.TheVariants as kinds
use Rattle.aml_meaning.specs.Terms.{inner_of, list_of, else_of}
use Rattle.aml_meaning.specs.Tasks.{Task, task, operand_integer, value_at, in_turn}
use Rattle.aml_meaning.specs.TargetTerms.{target_at}

-- how a loop ends with a turn, where it does
abbrev pub loop_end : Flow → Option Flow
loop_end flow.Break = Some flow.Next
loop_end (flow.Return v) = Some (flow.Return v)
loop_end (flow.Value v) = None
loop_end flow.Next = None
loop_end flow.Continue = None

module _ {S : Type 0} (ev : Task → Run S Flow) where
  -- ---- If and Else

  -- the Else costs a step where it is evaluated, and none where it is passed over
  abbrev pub otherwise : List Seg → ℕ → Option Tree → Run S Flow
  otherwise scope depth None = give flow.Next
  otherwise scope depth (Some e) = ev (task scope depth e)

  abbrev pub branch : List Seg → ℕ → Trees → Option Tree → Bool → Run S Flow
  branch scope depth ts e true = in_turn ev scope depth ts
  branch scope depth ts e false = otherwise scope depth e

  unfoldable pub if_rule : List Seg → ℕ → Tree → Run S Flow
  if_rule scope depth t = do
    c ← settle (inner_of (operand_of t 0))
    ts ← settle (list_of (operand_of t 1))
    x ← operand_integer ev scope depth c
    branch scope depth ts (else_of (operand_of t 2)) (is_true x)

  unfoldable pub else_rule : List Seg → ℕ → Tree → Run S Flow
  else_rule scope depth t = do
    ts ← settle (list_of (operand_of t 0))
    in_turn ev scope depth ts

  -- ---- While

  abbrev pub turn_of : List Seg → ℕ → Trees → Bool → Run S Flow
  turn_of scope depth ts true = in_turn ev scope depth ts
  turn_of scope depth ts false = give flow.Break

  -- the condition, and the list where it holds; where it doesn't, that ends the loop
  unfoldable pub turn : List Seg → ℕ → Tree → Trees → Run S Flow
  turn scope depth c ts = do
    x ← operand_integer ev scope depth c
    turn_of scope depth ts (is_true x)

  -- a turn is done: the loop ends, or it goes on
  abbrev pub after_turn : Option Flow → Run S Flow → Run S Flow
  after_turn None again = again
  after_turn (Some f) again = give f

  -- at most so many turns
  unfoldable pub turns : ℕ → List Seg → ℕ → Tree → Trees → Run S Flow
  turns zero scope depth c ts = stop (refusal.Evaluation OutOfSteps)
  turns (suc n) scope depth c ts = do
    f ← turn scope depth c ts
    after_turn (loop_end f) (turns n scope depth c ts)

  -- each turn costs a step, so that no more begin than one for each that is left and another, which finds none
  unfoldable pub loop : List Seg → ℕ → Tree → Trees → Run S Flow
  loop scope depth c ts s = turns (suc s.1) scope depth c ts s

  unfoldable pub while_rule : List Seg → ℕ → Tree → Run S Flow
  while_rule scope depth t = do
    c ← settle (inner_of (operand_of t 0))
    ts ← settle (list_of (operand_of t 1))
    loop scope depth c ts

  -- ---- the others

  unfoldable pub return_rule : List Seg → ℕ → Tree → Run S Flow
  return_rule scope depth t = do
    v ← value_at ev scope depth t 0
    give (flow.Return v)

  unfoldable pub release_rule : List Seg → ℕ → Tree → Run S Flow
  release_rule scope depth t = do
    p ← target_at ev scope depth t 0
    done ← lift (given_back_at p)
    give flow.Next

  -- nobody is told: its operands are evaluated, and nothing else
  unfoldable pub notify_rule : List Seg → ℕ → Tree → Run S Flow
  notify_rule scope depth t = do
    p ← target_at ev scope depth t 0
    v ← value_at ev scope depth t 1
    give flow.Next

  -- no time passes
  unfoldable pub pause_rule : List Seg → ℕ → Tree → Run S Flow
  pause_rule scope depth t = do
    v ← value_at ev scope depth t 0
    give flow.Next

  unfoldable pub fatal_rule : List Seg → ℕ → Tree → Run S Flow
  fatal_rule scope depth t = do
    v ← value_at ev scope depth t 2
    stop (refusal.Evaluation Fatal)

  abbrev pub statement_rule : StatementKind → List Seg → ℕ → Tree → Run S Flow
  statement_rule kinds.If scope depth t = if_rule scope depth t
  statement_rule kinds.Else scope depth t = else_rule scope depth t
  statement_rule kinds.While scope depth t = while_rule scope depth t
  statement_rule kinds.Break scope depth t = give flow.Break
  statement_rule kinds.Continue scope depth t = give flow.Continue
  statement_rule kinds.Noop scope depth t = give flow.Next
  statement_rule kinds.Return scope depth t = return_rule scope depth t
  statement_rule kinds.Release scope depth t = release_rule scope depth t
  statement_rule kinds.Notify scope depth t = notify_rule scope depth t
  statement_rule kinds.Pause scope depth t = pause_rule scope depth t
  statement_rule kinds.Fatal scope depth t = fatal_rule scope depth t
