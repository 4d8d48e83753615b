use Rattle.route_check.proofs.FirstVersion.{whole_offers, counts_alone}
use Rattle.route_check.proofs.laws.a_claim_of_version_1_keeps_its_meaning.Goals as goal

pub returns-clause-offers : goal.returns-clause-offers
returns-clause-offers c = whole_offers

pub returns-clause-counts : goal.returns-clause-counts
returns-clause-counts c = counts_alone
