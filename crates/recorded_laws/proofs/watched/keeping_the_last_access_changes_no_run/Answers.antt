use Rattle.recorded_laws.proofs.Watching.{watched_run}
use Rattle.recorded_laws.proofs.watched.keeping_the_last_access_changes_no_run.Goals as goal

pub returns-clause-outcome : goal.returns-clause-outcome
returns-clause-outcome g c = λ accesses q tables osi before. (watched_run accesses q osi tables before).0

pub returns-clause-registers : goal.returns-clause-registers
returns-clause-registers g c = λ accesses q tables osi before. (watched_run accesses q osi tables before).1
