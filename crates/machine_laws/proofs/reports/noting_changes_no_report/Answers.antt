use Rattle.machine_laws.proofs.ReportsCarried.{report_noted}
use Rattle.machine_laws.proofs.reports.noting_changes_no_report.Goals as goal

pub returns : goal.returns
returns g c = report_noted
