-- A While is a turn, and where that doesn't end it the While again.
use Rattle.std.specs.Prelude.{◌≡◌, ℕ, zero, suc, ◌<◌, ◌≤◌, List, Option, Some, None, Ok, Err, refl}
use Rattle.std.proofs.Common.{arith}
use Rattle.ar_space.specs.Accesses.{Accesses}
use Rattle.ar_space.specs.Outcome.{Outcome}
use Rattle.ar_space.specs.Change.{go_on, ◌>>=◌}
use Rattle.aml_path.specs.declared.segment.Seg.{Seg}
use Rattle.aml_grammar.specs.Tree.{Tree, Trees}
use Rattle.aml_world.specs.state.State.{State}
use Rattle.aml_world.specs.state.Run.{Run}
use Rattle.aml_meaning.specs.declared.flow.Flow.{Flow}
use Rattle.aml_meaning.proofs.Agree.{Agree, agree_settle, agree_lift}
use Rattle.aml_meaning.specs.Tasks.{Task, operand_value, operand_integer}
use Rattle.aml_meaning.specs.StatementTerms.{turn, loop_end, after_turn, turns, loop}
use Rattle.aml_meaning.proofs.AgreeTerms.{agree_turn_of}
use Rattle.aml_meaning.specs.Meaning.{meaning}
use Rattle.aml_meaning.proofs.Meanings.{meaning_less, meaning_paid}

-- ---- a turn costs a step

record Pays {S A : Type 0} (m : Run S A) : Type 0 where
  pays : (s : State S × ℕ) (a : A) → (m s).0 ≡ Ok a → (m s).1.1 < s.1

pays_on : {S A B : Type 0} (r : Outcome A) (s : State S × ℕ) (k : A → Run S B) (n : ℕ) (b : B) → ((a : A) → r ≡ Ok a → s.1 < n) → ((a : A) (u : State S × ℕ) → (k a u).1.1 ≤ u.1) → (go_on r s k).0 ≡ Ok b → (go_on r s k).1.1 < n
unfolding go_on
pays_on (Ok a) s k n b h l e = let x = h a refl in let y = l a s in omega arith
pays_on (Err x) s k n b h l e = absurd (cc e)

pays_bind : {S A B : Type 0} (m : Run S A) (k : A → Run S B) → Pays m → ((a : A) (u : State S × ℕ) → (k a u).1.1 ≤ u.1) → Pays (m >>= k)
unfolding ◌>>=◌
pays_bind m k h l = record { pays = λ s b e. pays_on (m s).0 (m s).1 k s.1 b (λ a i. h.pays s a i) l e }

meaning_agrees : {S : Type 0} (accesses : Accesses S) (n : ℕ) (u : Task) → Agree {S = S} n (meaning accesses u) (meaning accesses u)
meaning_agrees accesses n u = record { same = λ s le. refl; less = λ s le. meaning_less accesses u s }

value_pays : {S : Type 0} (accesses : Accesses S) (scope : List Seg) (depth : ℕ) (c : Tree) → Pays {S = S} (operand_value (meaning accesses) scope depth c)
unfolding operand_value
value_pays accesses scope depth c = pays_bind _ _ (record { pays = λ s f e. meaning_paid accesses _ s f e }) (λ f u. (agree_settle {n = u.1} _).less u (omega arith))

integer_pays : {S : Type 0} (accesses : Accesses S) (scope : List Seg) (depth : ℕ) (c : Tree) → Pays {S = S} (operand_integer (meaning accesses) scope depth c)
unfolding operand_integer
integer_pays accesses scope depth c = pays_bind _ _ (value_pays accesses scope depth c) (λ v u. (agree_lift {n = u.1} _).less u (omega arith))

turn_pays : {S : Type 0} (accesses : Accesses S) (scope : List Seg) (depth : ℕ) (c : Tree) (ts : Trees) → Pays {S = S} (turn (meaning accesses) scope depth c ts)
unfolding turn
turn_pays accesses scope depth c ts = pays_bind _ _ (integer_pays accesses scope depth c) (λ x u. (agree_turn_of {n = u.1} accesses (meaning accesses) (meaning accesses) (meaning_agrees accesses u.1) scope depth ts _).less u (omega arith))

-- ---- so that the bound on the turns makes no difference

after_same : {S : Type 0} (accesses : Accesses S) (o : Option Flow) (m k : Run S Flow) (s : State S × ℕ) → m s ≡ k s → after_turn {S = S} (meaning accesses) o m s ≡ after_turn (meaning accesses) o k s
after_same accesses None m k s h = h
after_same accesses (Some f) m k s h = refl

turns_on : {S : Type 0} (accesses : Accesses S) (r : Outcome Flow) (s : State S × ℕ) (m k : Run S Flow) → ((f : Flow) → r ≡ Ok f → m s ≡ k s) → go_on r s (λ f. after_turn (meaning accesses) (loop_end f) m) ≡ go_on r s (λ f. after_turn (meaning accesses) (loop_end f) k)
unfolding go_on
turns_on accesses (Ok f) s m k h = after_same accesses (loop_end f) m k s (h f refl)
turns_on accesses (Err e) s m k h = refl

same_turns : {S : Type 0} (accesses : Accesses S) (n m : ℕ) (scope : List Seg) (depth : ℕ) (c : Tree) (ts : Trees) (s : State S × ℕ) → s.1 < n → s.1 < m → turns (meaning accesses) n scope depth c ts s ≡ turns (meaning accesses) m scope depth c ts s
unfolding turns ◌>>=◌
same_turns accesses zero m scope depth c ts s h l = absurd (omega arith)
same_turns accesses (suc n) zero scope depth c ts s h l = absurd (omega arith)
same_turns accesses (suc n) (suc m) scope depth c ts s h l =
    turns_on accesses (turn (meaning accesses) scope depth c ts s).0 (turn (meaning accesses) scope depth c ts s).1 (turns (meaning accesses) n scope depth c ts) (turns (meaning accesses) m scope depth c ts)
    (λ f e. let p = (turn_pays accesses scope depth c ts).pays s f e in same_turns accesses n m scope depth c ts (turn (meaning accesses) scope depth c ts s).1 (omega arith) (omega arith))

-- a While is a turn, and then it is done or the While again
abbrev pub turn_and_loop : {S : Type 0} → Accesses S → List Seg → ℕ → Tree → Trees → Run S Flow
turn_and_loop accesses scope depth c ts = turn (meaning accesses) scope depth c ts >>= (λ f. after_turn (meaning accesses) (loop_end f) (loop (meaning accesses) scope depth c ts))

pub loop_is : {S : Type 0} (accesses : Accesses S) (scope : List Seg) (depth : ℕ) (c : Tree) (ts : Trees) (s : State S × ℕ) → loop (meaning accesses) scope depth c ts s ≡ turn_and_loop accesses scope depth c ts s
unfolding loop turns ◌>>=◌
loop_is accesses scope depth c ts s =
    turns_on accesses (turn (meaning accesses) scope depth c ts s).0 (turn (meaning accesses) scope depth c ts s).1 (turns (meaning accesses) s.1 scope depth c ts) (loop (meaning accesses) scope depth c ts)
    (λ f e. let p = (turn_pays accesses scope depth c ts).pays s f e in same_turns accesses s.1 (suc (turn (meaning accesses) scope depth c ts s).1.1) scope depth c ts (turn (meaning accesses) scope depth c ts s).1 (omega arith) (omega arith))
