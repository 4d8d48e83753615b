use Rattle.machine_laws.proofs.ReportsTold.{report_told}
use Rattle.machine_laws.proofs.reports.the_lines_of_a_report_tell_of_their_accesses.Goals as goal

pub returns : goal.returns
returns g c = report_told
