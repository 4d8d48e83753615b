-- Evaluation that counts all trees that begin: terms, a RefOf or a DerefOf that names a target, and names in packages. Each of them takes a
-- step where it begins, and nothing else takes one; so they are counted by the steps that a run takes.
use Rattle.std.specs.Prelude.{◌≤◌, ◌+◌, ◌-◌, ℕ}
use Rattle.ar_space.specs.Accesses.{Accesses}
use Rattle.ar_space.specs.Change.{◌>>◌, ◌>>=◌}
use Rattle.aml_world.specs.state.State.{State}
use Rattle.aml_world.specs.state.Run.{Run}
use Rattle.aml_meaning.specs.declared.flow.Flow.{Flow}
use Rattle.aml_meaning.specs.Tasks.{Task}
use Rattle.aml_meaning.specs.Meaning.{meaning}
use Rattle.aml_laws.specs.Counted.{without_counter, with_counter, begin}

-- how many trees have begun
abbrev pub trees_begun : {S : Type 0} → State (S × ℕ) → ℕ
trees_begun w = w.space.1

-- a run over a world with a counter, which no access reaches: it does what it does without it, and the trees are counted that begin
unfoldable pub counting_trees : {S A : Type 0} → Run S A → Run (S × ℕ) A
counting_trees m s = let r = m (without_counter s.0, s.1) in (r.0, (with_counter (trees_begun s.0 + (s.1 - r.1.1)) r.1.0, r.1.1))

-- it leaves no more steps than it got
abbrev pub LeavesNoMore : {S A : Type 0} → Run S A → Type 0
LeavesNoMore {S} m = (s : State S × ℕ) → (m s).1.1 ≤ s.1

-- a tree begins, which is counted, and then the rest of it
abbrev pub begin_and_count : {S A : Type 0} → Run S A → Run (S × ℕ) A
begin_and_count rest = begin >> counting_trees rest

-- one run after another, and the same with the trees of both counted
abbrev pub followed_by : {S A B : Type 0} → Run S A → (A → Run S B) → Run S B
followed_by m k = m >>= k

abbrev pub both_counted : {S A B : Type 0} → Run S A → (A → Run S B) → Run (S × ℕ) B
both_counted m k = counting_trees m >>= (λ a. counting_trees (k a))

-- `meaning`, with the trees counted
abbrev pub counted_trees : {S : Type 0} → Accesses S → Task → Run (S × ℕ) Flow
counted_trees accesses t = counting_trees (meaning accesses t)
