use Rattle.route_report.proofs.Rearranged.{counting_lines}
use Rattle.route_report.proofs.laws.lines_that_are_passed_over_say_nothing.Goals as goal

pub returns : goal.returns
returns c = counting_lines
