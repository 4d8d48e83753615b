use Rattle.std.proofs.Common.{sym, ◌∙◌, get_or, [], below_more, subst}
use Rattle.route_model.specs.Links.{offers_of}
use Rattle.route_solve.specs.Fits.{IsOffer}
use Rattle.route_model.proofs.Offers.{offers_at}
use Rattle.route_solve.proofs.Ascending.{no, shown, refuted}
use Rattle.route_solve.proofs.conditions.are_offers.Goals as goal

pub returns-then-not-is_offer : goal.returns-then-not-is_offer
returns-then-not-is_offer c =
    let i = c.loop-link.link-index in
    let at = offers_at c.args.links.now i c.link-item.result c.loop-link-test.true c.link-item.is ∙ sym c.offers.ensures in
    no (λ h. refuted c.is_offer.result c.is_offer.ensures c.if-not-is_offer.true (subst IsOffer at (h i c.loop-link-test.true)))

pub loop-link-preserved : goal.loop-link-preserved
loop-link-preserved c =
    let i = c.loop-link.link-index in
    let at = offers_at c.args.links.now i c.link-item.result c.loop-link-test.true c.link-item.is ∙ sym c.offers.ensures in
    below_more (λ k. IsOffer (get_or (offers_of c.args.links.now) k [])) i c.loop-link.invariant (subst IsOffer (sym at) (shown c.is_offer.result c.is_offer.ensures c.if-not-is_offer.false))
