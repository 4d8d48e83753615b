-- The meaning of a term: it costs a step, and is then its rule over the meanings of its parts.
use Rattle.std.specs.Prelude.{ℕ, zero, suc, Err}
use Rattle.ar_space.specs.declared.refusal.Refusal.TheVariants as refusal
use Rattle.ar_space.specs.declared.refusal.EvaluationFault.TheVariants.{OutOfSteps}
use Rattle.ar_space.specs.Accesses.{Accesses}
use Rattle.ar_space.specs.Change.{◌>>◌}
use Rattle.aml_world.specs.state.Run.{Run, charge}
use Rattle.aml_meaning.specs.declared.flow.Flow.{Flow}
use Rattle.aml_meaning.specs.Tasks.{Task}
use Rattle.aml_meaning.specs.Evaluation.{rule}

-- evaluated with at most n steps; the steps that are left bound the terms that begin, so that n is enough where it is no less
unfoldable pub evaluated_within : {S : Type 0} → Accesses S → ℕ → Task → Run S Flow
evaluated_within accesses zero t s = (Err (refusal.Evaluation OutOfSteps), s)
evaluated_within accesses (suc n) t (w, zero) = (Err (refusal.Evaluation OutOfSteps), (w, zero))
evaluated_within accesses (suc n) t (w, suc b) = rule accesses (evaluated_within accesses n) t (w, b)

unfoldable pub meaning : {S : Type 0} → Accesses S → Task → Run S Flow
meaning accesses t s = evaluated_within accesses s.1 t s

-- a term costs a step, and is then its rule over the meanings of its parts
abbrev pub step_and_rule : {S : Type 0} → Accesses S → Task → Run S Flow
step_and_rule accesses t = charge >> rule accesses (meaning accesses) t
