use Rattle.route_report.proofs.Claims.{text_in_order}
use Rattle.route_report.proofs.laws.a_claim_that_was_read_is_in_order.Goals as goal

pub returns : goal.returns
returns c = text_in_order
