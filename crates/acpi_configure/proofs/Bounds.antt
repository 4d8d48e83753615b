-- The set that is claimed, or none, and the paths of its links.
use Rattle.std.proofs.Common.{◌≡◌, ◌≢◌, ◌<◌, ℕ, zero, suc, List, [], length, get_or, Some, None, refl, sym}
use Rattle.std.proofs.lemmas.List.{get_or-map}
use Rattle.aml_path.specs.declared.segment.Seg.{Seg}
use Rattle.route_model.specs.Links.{OfferingLink, paths_of}
use Rattle.route_check.specs.Claims.{BoundingSet}
use Rattle.route_check.specs.Claimed.{bound_for}

pub no_bound : (k : ℕ) (set : BoundingSet) → k ≡ 0 → bound_for k set ≡ None
no_bound zero set is = refl
no_bound (suc k) set is = absurd (cc is)

pub some_bound : (k : ℕ) (set : BoundingSet) → k ≢ 0 → bound_for k set ≡ Some set
some_bound zero set is = absurd (is refl)
some_bound (suc k) set is = refl

pub ruleset bounds = (no_bound, some_bound)

pub path_of_link : (links : List OfferingLink) (i : ℕ) (d : OfferingLink) → i < length links → get_or (paths_of links) i [] ≡ (get_or links i d).path
path_of_link links i d l = get_or-map (λ (l : OfferingLink). l.path) links i d [] l
