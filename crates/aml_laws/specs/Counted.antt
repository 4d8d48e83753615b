-- Evaluation that counts the terms that begin, by a counter beside the register space, which no access reaches. The terms are those
-- that are evaluated: a RefOf or a DerefOf that names a target, and a name in a package, cost a step too, and are not counted.
use Rattle.std.specs.Prelude.{ℕ, zero, suc, ◌+◌, ◌-◌, ◌==◌, Ok, Err, if◌then◌else◌}
use Rattle.ar_space.specs.declared.refusal.Refusal.TheVariants as refusal
use Rattle.ar_space.specs.declared.refusal.EvaluationFault.TheVariants.{OutOfSteps}
use Rattle.ar_space.specs.Accesses.{Accesses}
use Rattle.ar_space.specs.Outcome.{Outcome}
use Rattle.ar_space.specs.Change.{◌>>◌}
use Rattle.aml_world.specs.state.State.{State}
use Rattle.aml_world.specs.state.Run.{Run}
use Rattle.aml_meaning.specs.declared.flow.Flow.{Flow}
use Rattle.aml_meaning.specs.Tasks.{Task}
use Rattle.aml_meaning.specs.Evaluation.{rule}

-- the accesses of a space; the counter stays as it is
unfoldable pub beside_counter : {S : Type 0} → Accesses S → Accesses (S × ℕ)
beside_counter accesses = record {
  reads = λ s place width. ((accesses.reads s.0 place width).0, ((accesses.reads s.0 place width).1, s.1));
  writes = λ s place width value. ((accesses.writes s.0 place width value).0, ((accesses.writes s.0 place width value).1, s.1));
}

-- how many terms have begun, and one more
abbrev pub terms_begun : {S : Type 0} → State (S × ℕ) → ℕ
terms_begun w = w.space.1

abbrev pub one_more_begun : {S : Type 0} → State (S × ℕ) → State (S × ℕ)
one_more_begun w = record w { space = (w.space.0, w.space.1 + 1) }

-- a world without its counter, and one with a counter
abbrev pub without_counter : {S : Type 0} → State (S × ℕ) → State S
without_counter w = record { names = w.names; arities = w.arities; objects = w.objects; frames = w.frames; started = w.started; space = w.space.0; osi = w.osi; width = w.width; profile = w.profile; nesting = w.nesting; passed = w.passed }

abbrev pub with_counter : {S : Type 0} → ℕ → State S → State (S × ℕ)
with_counter count w = record { names = w.names; arities = w.arities; objects = w.objects; frames = w.frames; started = w.started; space = (w.space, count); osi = w.osi; width = w.width; profile = w.profile; nesting = w.nesting; passed = w.passed }

-- what an evaluation gives and leaves, without the counter
abbrev pub outcome_without_counter : {S A : Type 0} → Outcome A × (State (S × ℕ) × ℕ) → Outcome A × (State S × ℕ)
outcome_without_counter r = (r.0, (without_counter r.1.0, r.1.1))

-- `evaluated_within`, with a term counted where it begins
unfoldable pub counted_within : {S : Type 0} → Accesses S → ℕ → Task → Run (S × ℕ) Flow
counted_within accesses zero t s = (Err (refusal.Evaluation OutOfSteps), s)
counted_within accesses (suc n) t (w, zero) = (Err (refusal.Evaluation OutOfSteps), (w, zero))
counted_within accesses (suc n) t (w, suc b) = rule (beside_counter accesses) (counted_within accesses n) t (one_more_begun w, b)

-- `meaning`, with the terms counted
unfoldable pub counted_meaning : {S : Type 0} → Accesses S → Task → Run (S × ℕ) Flow
counted_meaning accesses t s = counted_within accesses s.1 t s

-- a step, with which a term begins
unfoldable pub begin : {S : Type 0} → Run (S × ℕ) (Unit {0})
begin s = if s.1 == 0 then (Err (refusal.Evaluation OutOfSteps), s) else (Ok tt, (one_more_begun s.0, s.1 - 1))

-- a term begins, and is then its rule over its parts, with their terms counted
abbrev pub begin_and_rule : {S : Type 0} → Accesses S → Task → Run (S × ℕ) Flow
begin_and_rule accesses t = begin >> rule (beside_counter accesses) (counted_meaning accesses) t
