-- The claim that is made of an assignment and its bound.
use Rattle.std.specs.Prelude.{ℕ, false, zero, suc, List, [], ◌∷◌, map, slice_index_or, Option, Some, None}
use Rattle.aml_path.specs.declared.segment.Seg.{Seg}
use Rattle.route_model.specs.Links.{OfferingLink, paths_of}
use Rattle.route_check.specs.Claims.{BoundingSet, RoutingClaim}

-- each link with its interrupt
abbrev pub gives_of : List OfferingLink → List ℕ → List (List Seg × ℕ)
gives_of [] ns = []
gives_of (l ∷ ls) [] = []
gives_of (l ∷ ls) (n ∷ ns) = (l.path, n) ∷ gives_of ls ns

-- the paths of the links at some places
abbrev pub paths_at : List OfferingLink → List ℕ → List (List Seg)
paths_at links places = map (λ l. slice_index_or (paths_of links) l []) places

-- none is claimed where the busiest interrupt serves no source
abbrev pub bound_for : ℕ → BoundingSet → Option BoundingSet
bound_for zero set = None
bound_for (suc k) set = Some set

-- it isn't claimed that links share interrupts as little as they can
abbrev pub claim_of : List OfferingLink → List (ℕ × ℕ) → Option ℕ → List ℕ → List ℕ → ℕ → List ℕ → List ℕ → RoutingClaim
claim_of links wired sci avoid choice busiest places interrupts = record {
  links = links;
  wired = wired;
  sci = sci;
  avoid = avoid;
  gives = gives_of links choice;
  busiest = busiest;
  bound = bound_for busiest (record { links = paths_at links places; interrupts = interrupts });
  spread = false;
}
