use Rattle.std.proofs.Common.{◌∙◌, ap, ap₂, ℕ, List, map}
use Rattle.aml_path.specs.declared.segment.Seg.{Seg}
use Rattle.route_model.specs.Avoided.{without}
use Rattle.route_model.specs.Links.{OfferingLink, offers_of}
use Rattle.route_check.specs.Valid.{choice_of}
use Rattle.route_check.proofs.Shares.{shared_as}
use Rattle.route_check.proofs.shared.is_shared.Goals as goal

pub returns : goal.returns
returns c =
    shared_as c.is_least_shared.result _ _ _ _ _ _
    (ap offers_of c.deref.ensures.value ∙ (c.in_ok-links.ensures ∙ ap₂ (λ (avoid : List ℕ) (links : List OfferingLink). map (λ l. without avoid l.offers) links) c.by.ensures c.links.ensures))
    (c.deref-2.ensures.value ∙ c.in_ok-wired.ensures)
    (c.deref-3.ensures.value ∙ (c.in_ok-choice.ensures ∙ ap₂ (λ (links : List OfferingLink) (gives : List (List Seg × ℕ)). choice_of links gives) c.links-2.ensures c.gives.ensures))
    c.is_least_shared.ensures.answer
