use Rattle.route_report.proofs.Rearranged.{any_order}
use Rattle.route_report.proofs.laws.the_order_of_lines_does_not_matter.Goals as goal

pub returns : goal.returns
returns c = any_order
