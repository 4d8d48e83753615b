-- Where a loop refuses by a fault of the register space, its last access answered with it, where its parts do so. A loop is refused for
-- want of steps only where none is left: each turn costs a step, so that the bound on the turns is never reached before.
use Rattle.std.specs.Prelude.{◌≡◌, ◌<◌, ℕ, zero, suc, List, Bool, true, false, Option, Some, None, Ok, Err, refl}
use Rattle.std.proofs.Common.{arith}
use Rattle.ar_space.specs.Accesses.{Accesses}
use Rattle.ar_space.specs.Outcome.{Outcome}
use Rattle.ar_space.specs.Change.{give, stop, go_on, ◌>>=◌}
use Rattle.aml_path.specs.declared.segment.Seg.{Seg}
use Rattle.aml_grammar.specs.Tree.{Tree, Trees}
use Rattle.aml_world.specs.state.State.{State}
use Rattle.aml_world.specs.state.Run.{Run}
use Rattle.aml_meaning.specs.declared.flow.Flow.{Flow}
use Rattle.aml_meaning.specs.Tasks.{Task}
use Rattle.aml_meaning.specs.StatementTerms.{turn_of, turn, loop_end, after_turn, turns, loop}
use Rattle.aml_laws.specs.Answered.{none}
use Rattle.aml_laws.proofs.Costs.{Costs, turn_pays}
use Rattle.aml_laws.proofs.FaultsOfCalls.{in_turn_explains, operand_integer_explains}
use Rattle.aml_laws.proofs.FaultsOfChanges.{Explains, RunExplains, Spent, explains_untold, give_explains, then_explains}
use Rattle.aml_laws.proofs.SetDepths.{is_low}

module _ {S : Type 0} (accesses : Accesses S) (ev : Task → Run S Flow) (parts : (t : Task) → RunExplains accesses (ev t)) where
  turn_of_explains : (scope : List Seg) (depth : ℕ) (ts : Trees) (b : Bool) → RunExplains accesses (turn_of ev scope depth ts b)
  turn_of_explains scope depth ts true = in_turn_explains accesses ev parts scope depth ts
  turn_of_explains scope depth ts false = give_explains _

  turn_explains : (scope : List Seg) (depth : ℕ) (c : Tree) (ts : Trees) → RunExplains accesses (turn ev scope depth c ts)
  unfolding turn
  turn_explains scope depth c ts = then_explains _ _ (operand_integer_explains accesses ev parts scope depth c) (λ x. turn_of_explains scope depth ts _)

  -- ---- the register space, where the steps that are left are not told

  abbrev pub UntoldExplains : {A : Type 0} → Run S A → Type 0
  UntoldExplains m = Explains accesses (λ s. s.0.space) (λ s. 0) (λ s. is_low s.0.nesting) m

  after_turn_explains : (o : Option Flow) (m : Run S Flow) → UntoldExplains m → UntoldExplains (after_turn ev o m)
  after_turn_explains None m h = h
  after_turn_explains (Some f) m h = give_explains _

  turns_explains : (k : ℕ) (scope : List Seg) (depth : ℕ) (c : Tree) (ts : Trees) → UntoldExplains (turns ev k scope depth c ts)
  unfolding turns stop
  turns_explains zero scope depth c ts = record { explained = λ s. none; spent = λ s. refl; set = λ s. tt }
  turns_explains (suc k) scope depth c ts = then_explains _ _ (explains_untold _ (turn_explains scope depth c ts)) (λ f. after_turn_explains (loop_end f) _ (turns_explains k scope depth c ts))

  -- ---- the steps that are left

  after_turn_spent : (o : Option Flow) (m : Run S Flow) (s : State S × ℕ) → Spent (m s).0 (m s).1.1 → Spent (after_turn ev o m s).0 (after_turn ev o m s).1.1
  unfolding give
  after_turn_spent None m s h = h
  after_turn_spent (Some f) m s h = tt

  turns_on_spent : (r : Outcome Flow) (s : State S × ℕ) (m : Run S Flow) → Spent r s.1 → ((f : Flow) → r ≡ Ok f → Spent (m s).0 (m s).1.1)
      → Spent (go_on r s (λ f. after_turn ev (loop_end f) m)).0 (go_on r s (λ f. after_turn ev (loop_end f) m)).1.1
  unfolding go_on
  turns_on_spent (Ok f) s m spent h = after_turn_spent (loop_end f) m s (h f refl)
  turns_on_spent (Err e) s m spent h = spent

  module _ (costs : Costs ev) where
    turns_spent : (k : ℕ) (scope : List Seg) (depth : ℕ) (c : Tree) (ts : Trees) (s : State S × ℕ) → s.1 < k → Spent (turns ev k scope depth c ts s).0 (turns ev k scope depth c ts s).1.1
    unfolding turns ◌>>=◌
    turns_spent zero scope depth c ts s le = absurd (omega arith)
    turns_spent (suc k) scope depth c ts s le =
        turns_on_spent (turn ev scope depth c ts s).0 (turn ev scope depth c ts s).1 (turns ev k scope depth c ts) ((turn_explains scope depth c ts).spent s)
        (λ f e. let p = (turn_pays accesses ev costs scope depth c ts).pays s f e in turns_spent k scope depth c ts (turn ev scope depth c ts s).1 (omega arith))

    pub loop_explains : (scope : List Seg) (depth : ℕ) (c : Tree) (ts : Trees) → RunExplains accesses (loop ev scope depth c ts)
    unfolding loop
    loop_explains scope depth c ts = record { explained = λ s. (turns_explains (suc s.1) scope depth c ts).explained s; spent = λ s. turns_spent (suc s.1) scope depth c ts s (omega arith); set = λ s. (turns_explains (suc s.1) scope depth c ts).set s }
