use Rattle.route_report.proofs.Claims.{claim_elements}
use Rattle.route_report.proofs.laws.a_claim_in_order_has_the_same_elements.Goals as goal

pub returns : goal.returns
returns c = claim_elements
