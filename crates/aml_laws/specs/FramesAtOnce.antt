-- Evaluation in which a term does something else where more than 33 frames stand.
use Rattle.std.specs.Prelude.{ℕ, zero, suc, length, nat_le, Err, if◌then◌else◌}
use Rattle.ar_space.specs.declared.refusal.Refusal.TheVariants as refusal
use Rattle.ar_space.specs.declared.refusal.EvaluationFault.TheVariants.{OutOfSteps}
use Rattle.ar_space.specs.Accesses.{Accesses}
use Rattle.aml_world.specs.state.Run.{Run}
use Rattle.aml_meaning.specs.declared.flow.Flow.{Flow}
use Rattle.aml_meaning.specs.Tasks.{Task}
use Rattle.aml_meaning.specs.Evaluation.{rule}

-- evaluated with at most n steps; other: what a term does where more than 33 frames stand
unfoldable pub evaluated_but : {S : Type 0} → Accesses S → (Task → Run S Flow) → ℕ → Task → Run S Flow
evaluated_but accesses other zero t s = (Err (refusal.Evaluation OutOfSteps), s)
evaluated_but accesses other (suc n) t (w, zero) = (Err (refusal.Evaluation OutOfSteps), (w, zero))
evaluated_but accesses other (suc n) t (w, suc b) = if nat_le (length w.frames) 33 then rule accesses (evaluated_but accesses other n) t (w, b) else other t (w, b)

-- what a term means with it
unfoldable pub meaning_but : {S : Type 0} → Accesses S → (Task → Run S Flow) → Task → Run S Flow
meaning_but accesses other t s = evaluated_but accesses other s.1 t s
