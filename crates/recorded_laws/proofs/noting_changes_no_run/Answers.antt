use Rattle.recorded_laws.proofs.RunsTold.{run_noted}
use Rattle.recorded_laws.proofs.noting_changes_no_run.Goals as goal

pub returns : goal.returns
returns g c = run_noted
