use Rattle.acpi_links.proofs.Stopped.{in_offer, behind_offer}
use Rattle.acpi_links.proofs.links.link_found.Goals as goal

pub returns-in_err-offer-clause-evaluated : goal.returns-in_err-offer-clause-evaluated
returns-in_err-offer-clause-evaluated g c = in_offer g.S.Space.accesses c.args.avoid.now c.args.link.now c.in_err-offer.ensures.evaluated

pub returns-in_err-some_left-clause-evaluated : goal.returns-in_err-some_left-clause-evaluated
returns-in_err-some_left-clause-evaluated g c = in_offer g.S.Space.accesses c.args.avoid.now c.args.link.now c.in_ok-offer.ensures.evaluated

pub returns-in_err-now-clause-evaluated : goal.returns-in_err-now-clause-evaluated
returns-in_err-now-clause-evaluated g c = behind_offer g.S.Space.accesses c.args.avoid.now c.args.link.now c.in_ok-offer.offer c.in_ok-offer.ensures.value c.in_ok-some_left.ensures.value c.in_err-now.ensures.evaluated

pub returns-clause-evaluated : goal.returns-clause-evaluated
returns-clause-evaluated g c = behind_offer g.S.Space.accesses c.args.avoid.now c.args.link.now c.in_ok-offer.offer c.in_ok-offer.ensures.value c.in_ok-some_left.ensures.value c.in_ok-now.ensures.evaluated
