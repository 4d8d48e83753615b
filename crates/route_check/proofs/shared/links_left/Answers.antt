use Rattle.std.proofs.Common.{◌∙◌, ap, arith, map, List}
use Rattle.std.proofs.lemmas.List.{take_all}
use Rattle.route_model.specs.Avoided.{without}
use Rattle.route_model.specs.Links.{OfferingLink}
use Rattle.route_check.proofs.Shares.{links_more}
use Rattle.route_check.proofs.shared.links_left.Goals as goal

pub loop-link-preserved : goal.loop-link-preserved
loop-link-preserved c =
    links_more (λ (x : OfferingLink). without c.args.avoided.now x.offers) c.loop-link.list.items _ c.args.links.now c.loop-link.link-index c.link-item.result c.new.result c.loop-link.invariant (omega arith) c.link-item.is c.in_ok-push.ensures.items (cc (c.new.ensures, c.in_ok-left.ensures, c.offers.ensures))

pub returns : goal.returns
returns c = c.loop-link.invariant ∙ ap (λ (ls : List OfferingLink). map (λ x. without c.args.avoided.now x.offers) ls) (take_all c.loop-link.link-index c.args.links.now (omega arith))
