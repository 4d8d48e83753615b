-- When links share interrupts as little as they can, by a claim.
use Rattle.std.specs.Prelude.{◌≡◌, true, map}
use Rattle.route_spread.specs.Sharing.{IsLeastShared}
use Rattle.route_check.specs.Claims.{RoutingClaim}
use Rattle.route_check.specs.Valid.{Valid, effective_offers, effective_counts, choice_of}

-- over all assignments of what its links may be given, and by all sources that it has
abbrev pub IsClaimShared : RoutingClaim → Type 0
IsClaimShared c = IsLeastShared (map (effective_offers c) c.links) (effective_counts c) (choice_of c.links c.gives)

-- a claim is valid, and where it says so, its links share interrupts as little as they can
pub record Holds (c : RoutingClaim) : Type 0 where
  pub valid : Valid c
  pub shared : c.spread ≡ true → IsClaimShared c
