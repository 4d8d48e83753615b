use Rattle.route_report.proofs.Claims.{claims_same}
use Rattle.route_report.proofs.laws.claims_with_the_same_elements_are_one_in_order.Goals as goal

pub returns : goal.returns
returns c = claims_same
