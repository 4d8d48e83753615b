use Rattle.route_report.proofs.Sections.{read_back}
use Rattle.route_report.proofs.laws.a_printed_report_is_read_back.Goals as goal

pub returns : goal.returns
returns c = read_back c.text_is_read_back.ensures
