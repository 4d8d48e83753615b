-- Lists whose keys ascend, as those of a claim that was read do, and gives that stand in the order of the links.
use Rattle.std.specs.Prelude.{◌≡◌, ℕ, ◌+◌, ◌<◌, List, length, map, slice_index_or}
use Rattle.std.specs.declared.cmp.Ordering.{Ordering}
use Rattle.std.specs.declared.cmp.Ordering.TheVariants.{Less}
use Rattle.aml_path.specs.declared.segment.Seg.{Seg}
use Rattle.route_model.specs.Links.{OfferingLink}
use Rattle.route_check.specs.Valid.{choice_of}

-- each key is below the next
abbrev pub Ascends : {X K : Type 0} → (K → K → Ordering) → (X → K) → List X → Type 0
Ascends {X} order key xs = (i : ℕ) (d : X) → i + 1 < length xs → order (key (slice_index_or xs i d)) (key (slice_index_or xs (i + 1) d)) ≡ Less

-- each link is given what stands at its own place
abbrev pub AreAligned : List OfferingLink → List (List Seg × ℕ) → Type 0
AreAligned links gives = choice_of links gives ≡ map (λ g. g.1) gives
