use Rattle.machine_laws.proofs.AccessesBounded.{report_bounded}
use Rattle.machine_laws.proofs.bounds.no_more_accesses_are_made_than_the_bound.Goals as goal

pub returns-clause-reports : goal.returns-clause-reports
returns-clause-reports g c = report_bounded
