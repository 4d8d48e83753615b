-- What each link offers, by its place.
use Rattle.std.proofs.Common.{◌≡◌, ℕ, ◌<◌, List, [], length, sym, ◌∙◌, ap, get_or}
use Rattle.std.proofs.lemmas.List.{length-map, get_or-map}
use Rattle.route_model.specs.Links.{OfferingLink, offers_of}

pub offers_length : (links : List OfferingLink) → length (offers_of links) ≡ length links
offers_length links = length-map links (λ (l : OfferingLink). l.offers)

pub offers_at : (links : List OfferingLink) (k : ℕ) (x : OfferingLink) → k < length links → x ≡ get_or links k x → get_or (offers_of links) k [] ≡ x.offers
offers_at links k x b is = get_or-map (λ (l : OfferingLink). l.offers) links k x [] b ∙ ap (λ (l : OfferingLink). l.offers) (sym is)
