use Rattle.recorded_laws.proofs.Watching.{watched_settings}
use Rattle.recorded_laws.proofs.watched.keeping_the_last_access_changes_no_setting.Goals as goal

pub returns-clause-outcome : goal.returns-clause-outcome
returns-clause-outcome g c = λ accesses dry links choice m. (watched_settings accesses dry links choice m).0

pub returns-clause-machine : goal.returns-clause-machine
returns-clause-machine g c = λ accesses dry links choice m. (watched_settings accesses dry links choice m).1
