use Rattle.route_report.proofs.FirstVersion.{of_version_1}
use Rattle.route_report.proofs.laws.a_report_of_version_1_has_no_sci_and_avoids_nothing.Goals as goal

pub returns : goal.returns
returns c = of_version_1
