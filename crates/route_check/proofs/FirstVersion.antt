-- A claim that avoids nothing, and that has no System Control Interrupt.
use Rattle.std.proofs.Common.{◌≡◌, ◌∙◌, ap, refl, ℕ, List, [], ◌∷◌, ◌++◌, None}
use Rattle.route_model.specs.Avoided.{without}
use Rattle.route_model.specs.Links.{OfferingLink}
use Rattle.route_check.specs.Claims.{RoutingClaim}
use Rattle.route_check.specs.Valid.{effective_offers, sci_counts, effective_counts}

without_none : (ns : List ℕ) → without [] ns ≡ ns
unfolding without
without_none [] = refl
without_none (n ∷ ns) = ap (λ ms. n ∷ ms) (without_none ns)

pub whole_offers : (c : RoutingClaim) (l : OfferingLink) → c.avoid ≡ [] → effective_offers c l ≡ l.offers
whole_offers c l none = ap (λ avoid. without avoid l.offers) none ∙ without_none l.offers

pub counts_alone : (c : RoutingClaim) → c.sci ≡ None → effective_counts c ≡ c.wired
counts_alone c none = ap (λ sci. sci_counts sci ++ c.wired) none
