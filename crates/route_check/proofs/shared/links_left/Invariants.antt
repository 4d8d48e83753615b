use Rattle.std.proofs.Common.{◌≡◌, map, take}
use Rattle.route_model.specs.Avoided.{without}
use Rattle.route_model.specs.Links.{offers_of}
use Rattle.route_check.proofs.shared.links_left.Given as goal

abbrev pub invariant-loop-link : goal.invariant-loop-link
invariant-loop-link l = offers_of l.list.items ≡ map (λ x. without l.avoided x.offers) (take l.link-index l.links)
