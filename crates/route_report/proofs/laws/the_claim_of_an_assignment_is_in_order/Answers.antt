use Rattle.route_report.proofs.Claimed.{claim_is_in_order}
use Rattle.route_report.proofs.laws.the_claim_of_an_assignment_is_in_order.Goals as goal

pub returns : goal.returns
returns c = claim_is_in_order
