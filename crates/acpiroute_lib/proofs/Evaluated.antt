-- What a change answers, without what it leaves.
use Rattle.std.proofs.Common.{ap}
use Rattle.ar_space.specs.Change.{Change, Does}
use Rattle.ar_space.specs.Outcome.{Outcome, Answers}
use Rattle.ar_space.proofs.Outcomes.{answering}

pub change_answers : {S A : Type 0} {r : Outcome A} {after : S} (m : Change S A) (before : S) → Does r after m before → Answers r (m before).0
change_answers m before h = record { is = λ ne. ap (λ p. p.0) (h.is ne) }

pub ruleset evaluating = (answering, change_answers)
