-- When a claim is valid, and what follows of its assignment.
use Rattle.std.specs.Prelude.{◌≡◌, ℕ, ◌+◌, ◌-◌, ◌*◌, ◌<◌, ◌≤◌, ◌⊎◌, List, [], ◌∷◌, ◌++◌, Option, Some, None, length, map, Contains, All, sum_by, if◌then◌else◌}
use Rattle.aml_path.specs.declared.segment.Seg.{Seg}
use Rattle.aml_path.specs.Paths.{path_eq}
use Rattle.route_model.specs.Avoided.{without}
use Rattle.route_model.specs.Links.{OfferingLink, paths_of}
use Rattle.route_model.specs.Routing.{wired_to, busiest, IsAssignment}
use Rattle.route_model.specs.Bound.{IsDistinct}
use Rattle.route_check.specs.Claims.{RoutingClaim, links_of_bound, interrupts_of_bound}

-- the first part of each pair
abbrev pub keys_of : {X : Type 0} → List (X × ℕ) → List X
keys_of pairs = map (λ p. p.0) pairs

-- the number that a list of gives has for a link
abbrev pub given_to : List (List Seg × ℕ) → List Seg → ℕ
given_to [] path = 0
given_to (g ∷ gs) path = if path_eq g.0 path then g.1 else given_to gs path

-- the interrupts that a link of a claim may be given: those of its offer that aren't avoided
abbrev pub effective_offers : RoutingClaim → OfferingLink → List ℕ
effective_offers c l = without c.avoid l.offers

-- the System Control Interrupt is one source
abbrev pub sci_counts : Option ℕ → List (ℕ × ℕ)
sci_counts None = []
sci_counts (Some n) = (n, 1) ∷ []

-- the sources that are wired to interrupts, by a claim: pins, and the System Control Interrupt
abbrev pub effective_counts : RoutingClaim → List (ℕ × ℕ)
effective_counts c = sci_counts c.sci ++ c.wired

-- the gives in the order of the links
abbrev pub choice_of : List OfferingLink → List (List Seg × ℕ) → List ℕ
choice_of links gives = map (λ l. given_to gives l.path) links

abbrev pub set_links : RoutingClaim → List (List Seg)
set_links c = links_of_bound c.bound

abbrev pub set_interrupts : RoutingClaim → List ℕ
set_interrupts c = interrupts_of_bound c.bound

-- no link is claimed, given or in the set twice, and no interrupt is wired or in the set twice
pub record NoneRepeated (c : RoutingClaim) : Type 0 where
  pub links : IsDistinct (paths_of c.links)
  pub gives : IsDistinct (keys_of c.gives)
  pub wired : IsDistinct (keys_of c.wired)
  pub set : IsDistinct (set_links c)
  pub interrupts : IsDistinct (set_interrupts c)

-- every link is given an interrupt, and only links are given one or in the set
pub record NoneMissing (c : RoutingClaim) : Type 0 where
  pub given : All (λ l. Contains (keys_of c.gives) l.path) c.links
  pub known : All (λ g. Contains (paths_of c.links) g.0) c.gives
  pub set_known : All (Contains (paths_of c.links)) (set_links c)

abbrev pub AllOffered : RoutingClaim → Type 0
AllOffered c = All (λ l. Contains (effective_offers c l) (given_to c.gives l.path)) c.links

abbrev pub IsBusiestRight : RoutingClaim → Type 0
IsBusiestRight c = busiest (effective_counts c) (choice_of c.links c.gives) ≡ c.busiest

abbrev pub SomeInterrupt : RoutingClaim → Type 0
SomeInterrupt c = 0 < length (set_interrupts c)

-- the links of the set offer its interrupts alone, but for those that are avoided
abbrev pub OffersInside : RoutingClaim → Type 0
OffersInside c = All (λ l. Contains (set_links c) l.path → All (Contains (set_interrupts c)) (effective_offers c l)) c.links

-- the sources of the set are too many for one less than the busiest on each of its interrupts
abbrev pub IsCrowded : RoutingClaim → Type 0
IsCrowded c = (c.busiest - 1) * length (set_interrupts c) < length (set_links c) + sum_by (wired_to (effective_counts c)) (set_interrupts c)

pub record Valid (c : RoutingClaim) : Type 0 where
  pub none_repeated : NoneRepeated c
  pub none_missing : NoneMissing c
  pub all_offered : AllOffered c
  pub busiest_right : IsBusiestRight c
  pub bound : (c.busiest ≡ 0) ⊎ (SomeInterrupt c × OffersInside c × IsCrowded c)

-- What a claim says: its gives are an assignment of its links, its busiest is theirs, and no assignment is less busy.
pub record IsProved (c : RoutingClaim) : Type 0 where
  pub assigned : IsAssignment (map (effective_offers c) c.links) (choice_of c.links c.gives)
  pub busiest_is : busiest (effective_counts c) (choice_of c.links c.gives) ≡ c.busiest
  pub least : (b : List ℕ) → IsAssignment (map (effective_offers c) c.links) b → c.busiest ≤ busiest (effective_counts c) b
