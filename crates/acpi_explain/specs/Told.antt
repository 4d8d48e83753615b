-- What is told of the last access.
use Rattle.std.specs.Prelude.{Option, None}
use Rattle.ar_space.specs.declared.refusal.Refusal.{Refusal}
use Rattle.ar_space.specs.declared.refusal.Refusal.TheVariants as refusal
use Rattle.ar_space.specs.declared.refusal.EvaluationFault.TheVariants.{OutOfSteps}
use Rattle.watched_space.specs.declared.last_access.Accessed.{Accessed}

-- it tells something where it is what failed, or where the steps are used up
abbrev pub shown_access : Refusal → Option Accessed → Option Accessed
shown_access (refusal.Space fault) last = last
shown_access (refusal.Evaluation OutOfSteps) last = last
shown_access other last = None
