-- Meanings of parts by which each term costs a step: no run of them leaves more steps than it got, and a turn of a loop leaves fewer.
use Rattle.std.specs.Prelude.{◌≡◌, ◌<◌, ◌≤◌, ℕ, List, Ok, Err, refl}
use Rattle.std.proofs.Common.{arith}
use Rattle.ar_space.specs.Accesses.{Accesses}
use Rattle.ar_space.specs.Outcome.{Outcome}
use Rattle.ar_space.specs.Change.{go_on, ◌>>=◌}
use Rattle.aml_path.specs.declared.segment.Seg.{Seg}
use Rattle.aml_grammar.specs.Tree.{Tree, Trees}
use Rattle.aml_world.specs.state.State.{State}
use Rattle.aml_world.specs.state.Run.{Run}
use Rattle.aml_meaning.specs.declared.flow.Flow.{Flow}
use Rattle.aml_meaning.specs.Tasks.{Task, operand_value, operand_integer}
use Rattle.aml_meaning.specs.StatementTerms.{turn}
use Rattle.aml_meaning.proofs.Agree.{Agree, agree_settle, agree_lift}
use Rattle.aml_meaning.proofs.AgreeTerms.{agree_turn_of}

pub record Costs {S : Type 0} (ev : Task → Run S Flow) : Type 0 where
  pub less : (t : Task) (s : State S × ℕ) → (ev t s).1.1 ≤ s.1
  pub paid : (t : Task) (s : State S × ℕ) (f : Flow) → (ev t s).0 ≡ Ok f → (ev t s).1.1 < s.1

-- what gives a value has taken a step
pub record Pays {S A : Type 0} (m : Run S A) : Type 0 where
  pub pays : (s : State S × ℕ) (a : A) → (m s).0 ≡ Ok a → (m s).1.1 < s.1

pays_on : {S A B : Type 0} (r : Outcome A) (s : State S × ℕ) (k : A → Run S B) (n : ℕ) (b : B) → ((a : A) → r ≡ Ok a → s.1 < n) → ((a : A) (u : State S × ℕ) → (k a u).1.1 ≤ u.1) → (go_on r s k).0 ≡ Ok b → (go_on r s k).1.1 < n
unfolding go_on
pays_on (Ok a) s k n b h l e = let x = h a refl in let y = l a s in omega arith
pays_on (Err x) s k n b h l e = absurd (cc e)

then_pays : {S A B : Type 0} (m : Run S A) (k : A → Run S B) → Pays m → ((a : A) (u : State S × ℕ) → (k a u).1.1 ≤ u.1) → Pays (m >>= k)
unfolding ◌>>=◌
then_pays m k h l = record { pays = λ s b e. pays_on (m s).0 (m s).1 k s.1 b (λ a i. h.pays s a i) l e }

module _ {S : Type 0} (accesses : Accesses S) (ev : Task → Run S Flow) (costs : Costs ev) where
  agrees : (n : ℕ) (t : Task) → Agree {S = S} n (ev t) (ev t)
  agrees n t = record { same = λ s le. refl; less = λ s le. costs.less t s }

  value_pays : (scope : List Seg) (depth : ℕ) (c : Tree) → Pays {S = S} (operand_value ev scope depth c)
  unfolding operand_value
  value_pays scope depth c = then_pays _ _ (record { pays = λ s f e. costs.paid _ s f e }) (λ f u. (agree_settle {n = u.1} _).less u (omega arith))

  integer_pays : (scope : List Seg) (depth : ℕ) (c : Tree) → Pays {S = S} (operand_integer ev scope depth c)
  unfolding operand_integer
  integer_pays scope depth c = then_pays _ _ (value_pays scope depth c) (λ v u. (agree_lift {n = u.1} _).less u (omega arith))

  pub turn_pays : (scope : List Seg) (depth : ℕ) (c : Tree) (ts : Trees) → Pays {S = S} (turn ev scope depth c ts)
  unfolding turn
  turn_pays scope depth c ts = then_pays _ _ (integer_pays scope depth c) (λ x u. (agree_turn_of {n = u.1} accesses ev ev (agrees u.1) scope depth ts _).less u (omega arith))
