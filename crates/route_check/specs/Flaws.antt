-- The first test that a claim fails, and the numbers of the flaws.
use Rattle.std.specs.Prelude.{◌≡◌, true, ℕ, ◌<◌}
use Rattle.route_check.specs.Claims.{RoutingClaim}
use Rattle.route_check.specs.Valid.{NoneRepeated, NoneMissing, AllOffered, IsBusiestRight, SomeInterrupt, OffersInside, IsCrowded, Valid}
use Rattle.route_check.specs.Shared.{IsClaimShared}
use Rattle.route_check.specs.declared.flaw.Flaw.{Flaw}
use Rattle.route_check.specs.declared.flaw.Flaw.TheVariants.{Repeated, LinkMissing, NotOffered, BusiestWrong, SetEmpty, OfferOutsideSet, CountTooSmall, NotLeastShared}

abbrev pub number_of : Flaw → ℕ
number_of NotOffered = 1
number_of LinkMissing = 2
number_of Repeated = 3
number_of BusiestWrong = 4
number_of OfferOutsideSet = 5
number_of CountTooSmall = 6
number_of SetEmpty = 7
number_of NotLeastShared = 8

-- the tests before it hold, and this one doesn't
abbrev pub IsFirstFlaw : RoutingClaim → Flaw → Type 0
IsFirstFlaw c Repeated = NoneRepeated c → ⊥
IsFirstFlaw c LinkMissing = NoneRepeated c × (NoneMissing c → ⊥)
IsFirstFlaw c NotOffered = NoneRepeated c × NoneMissing c × (AllOffered c → ⊥)
IsFirstFlaw c BusiestWrong = NoneRepeated c × NoneMissing c × AllOffered c × (IsBusiestRight c → ⊥)
IsFirstFlaw c SetEmpty = NoneRepeated c × NoneMissing c × AllOffered c × IsBusiestRight c × (0 < c.busiest) × (SomeInterrupt c → ⊥)
IsFirstFlaw c OfferOutsideSet = NoneRepeated c × NoneMissing c × AllOffered c × IsBusiestRight c × (0 < c.busiest) × SomeInterrupt c × (OffersInside c → ⊥)
IsFirstFlaw c CountTooSmall = NoneRepeated c × NoneMissing c × AllOffered c × IsBusiestRight c × (0 < c.busiest) × SomeInterrupt c × OffersInside c × (IsCrowded c → ⊥)
IsFirstFlaw c NotLeastShared = Valid c × (c.spread ≡ true) × (IsClaimShared c → ⊥)
