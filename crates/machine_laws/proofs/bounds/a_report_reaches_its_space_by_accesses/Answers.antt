use Rattle.machine_laws.proofs.AccessesBounded.{report_reached}
use Rattle.machine_laws.proofs.bounds.a_report_reaches_its_space_by_accesses.Goals as goal

pub returns : goal.returns
returns g c = report_reached
