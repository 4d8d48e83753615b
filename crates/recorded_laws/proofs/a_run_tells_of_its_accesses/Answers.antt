use Rattle.recorded_laws.proofs.RunsTold.{run_told}
use Rattle.recorded_laws.proofs.a_run_tells_of_its_accesses.Goals as goal

pub returns : goal.returns
returns g c = run_told
