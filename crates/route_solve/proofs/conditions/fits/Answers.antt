use Rattle.std.proofs.Common.{arith}
use Rattle.route_solve.proofs.Ascending.{shown}
use Rattle.route_solve.proofs.conditions.fits.Goals as goal

pub returns : goal.returns
returns c =
    let links = c.links-links.ensures in
    let wired = c.wired-wired.ensures in
    let few = rw links at c.if-links-gt256.false in
    let sources = rw wired at c.few_sources.ensures in (
      λ t. record {
        few = omega arith;
        in_order = shown c.links_ascend.result (rw links at c.links_ascend.ensures) c.if-not-links_ascend.false;
        offers = shown c.are_offers.result (rw links at c.are_offers.ensures) c.if-not-are_offers.false;
        wired_in_order = shown c.wired_ascend.result (rw wired at c.wired_ascend.ensures) c.if-not-wired_ascend.false;
        counts = sources.0 t;
      },
      λ h. sources.1 h.counts,
    )
