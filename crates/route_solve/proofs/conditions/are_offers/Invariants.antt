use Rattle.std.proofs.Common.{◌<◌, ℕ, get_or, []}
use Rattle.route_model.specs.Links.{offers_of}
use Rattle.route_solve.specs.Fits.{IsOffer}
use Rattle.route_solve.proofs.conditions.are_offers.Given as goal

abbrev pub invariant-loop-link : goal.invariant-loop-link
invariant-loop-link l = (k : ℕ) → k < l.link-index → IsOffer (get_or (offers_of l.links) k [])
