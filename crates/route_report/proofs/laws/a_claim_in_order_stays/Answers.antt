use Rattle.route_report.proofs.Claims.{claim_stays}
use Rattle.route_report.proofs.laws.a_claim_in_order_stays.Goals as goal

pub returns : goal.returns
returns c = claim_stays
