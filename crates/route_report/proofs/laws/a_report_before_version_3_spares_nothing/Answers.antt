use Rattle.route_report.proofs.EarlierVersions.{of_earlier_version}
use Rattle.route_report.proofs.laws.a_report_before_version_3_spares_nothing.Goals as goal

pub returns : goal.returns
returns c = of_earlier_version
