-- The interrupts that links lead to, marked from the highest down. Links and interrupts are known by their places.
use Rattle.std.specs.Prelude.{◌≡◌, ◌==◌, ◌⊎◌, ℕ, ◌+◌, ◌-◌, ◌*◌, ◌<◌, ◌≤◌, Bool, true, false, List, length, cond, sum_by, slice_index_or, slice_set}
use Rattle.route_model.specs.Routing.{given}
use Rattle.route_model.specs.Placement.{Offers}

-- what stands at a place of a list of numbers
abbrev pub at : List ℕ → ℕ → ℕ
at xs k = slice_index_or xs k 0

abbrev pub is_raised : List Bool → ℕ → Bool
is_raised raised i = slice_index_or raised i false

-- the load of an interrupt, and one more where it is raised
abbrev pub height_at : List ℕ → List Bool → ℕ → ℕ
height_at loads raised i = at loads i + cond (is_raised raised i) 1 0

-- An interrupt was raised to the height of a link that offers it, and the link noted.
pub record IsNew (loads : List ℕ) (before : List Bool) (from : List ℕ) (link top x : ℕ) : Type 0 where
  pub low : is_raised before x ≡ false
  pub noted : at from x ≡ link
  pub below : at loads x + 1 ≡ top

-- Of some interrupts those were raised that are lower than a link.
pub record AreRaised (loads : List ℕ) (before after : List Bool) (from from' : List ℕ) (link top : ℕ) (Among : ℕ → Type 0) : Type 0 where
  pub kept : (x : ℕ) → is_raised before x ≡ true → is_raised after x ≡ true
  pub same : (x : ℕ) → is_raised before x ≡ true → at from' x ≡ at from x
  pub new : (x : ℕ) → is_raised after x ≡ true → (is_raised before x ≡ true) ⊎ (Among x × IsNew loads before from' link top x)

-- The interrupts in some order, and the rank of each: its place in that order.
pub record IsListed (interrupts ranks : List ℕ) : Type 0 where
  pub long : length ranks ≡ length interrupts
  pub known : (j : ℕ) → j < length interrupts → at interrupts j < length interrupts
  pub ranked : (j : ℕ) → j < length interrupts → at ranks (at interrupts j) ≡ j
  pub rank : (x : ℕ) → x < length interrupts → at ranks x < length interrupts
  pub there : (x : ℕ) → x < length interrupts → at interrupts (at ranks x) ≡ x

-- interrupts in the order of their loads, the greatest first
abbrev pub AreByLoads : List ℕ → List ℕ → Type 0
AreByLoads loads interrupts = (i j : ℕ) → i ≤ j → j < length interrupts → at loads (at interrupts j) ≤ at loads (at interrupts i)

-- An interrupt was put in place of the first of those that are lower, which has its place then.
pub record IsPromoted (i high : ℕ) (interrupts interrupts' ranks ranks' : List ℕ) : Type 0 where
  pub put : interrupts' ≡ slice_set (slice_set interrupts (at ranks i) (at interrupts high)) high i
  pub ranked : ranks' ≡ slice_set (slice_set ranks (at interrupts high) (at ranks i)) i high

-- The interrupts stand in the order of their heights, from the greatest down.
abbrev pub AreFalling : List ℕ → List Bool → List ℕ → Type 0
AreFalling loads raised ranks = (x y : ℕ) → x < length ranks → y < length ranks → at ranks x ≤ at ranks y → height_at loads raised y ≤ height_at loads raised x

-- They do, and so many of them, from the first on, are as high as a number.
pub record IsArranged (loads : List ℕ) (raised : List Bool) (interrupts ranks : List ℕ) (high top : ℕ) : Type 0 where
  pub listed : IsListed interrupts ranks
  pub falling : AreFalling loads raised ranks
  pub above : (x : ℕ) → x < length ranks → at ranks x < high → top ≤ height_at loads raised x
  pub below : (x : ℕ) → x < length ranks → high ≤ at ranks x → height_at loads raised x < top

-- They do, and so many of them, from the first on, are as high as all from the i-th on.
pub record IsBetween (loads : List ℕ) (raised : List Bool) (interrupts ranks : List ℕ) (high i : ℕ) : Type 0 where
  pub listed : IsListed interrupts ranks
  pub falling : AreFalling loads raised ranks
  pub begun : i ≤ high
  pub even : (x y : ℕ) → x < length ranks → y < length ranks → at ranks x < high → i ≤ at ranks y → height_at loads raised y ≤ height_at loads raised x

-- The first so many interrupts have kept their places.
pub record IsLater (high high' : ℕ) (ranks ranks' : List ℕ) : Type 0 where
  pub more : high ≤ high'
  pub still : (x : ℕ) → x < length ranks → at ranks x < high → at ranks' x ≡ at ranks x
  pub behind : (x : ℕ) → x < length ranks → high ≤ at ranks x → high ≤ at ranks' x

-- The links of each interrupt: the first of them, and the one behind each; the number of links where there is none.
pub record AreHolders (choice first next : List ℕ) : Type 0 where
  pub found : (k : ℕ) → k < length choice → at first (at choice k) ≤ k
  pub has : (x : ℕ) → x < length first → at first x < length choice → at choice (at first x) ≡ x
  pub after : (l : ℕ) → l < length choice → l < at next l
  pub same : (l : ℕ) → l < length choice → at next l < length choice → at choice (at next l) ≡ at choice l
  pub none : (l k : ℕ) → l < k → k < length choice → at choice k ≡ at choice l → at next l ≤ k

-- Why each interrupt is raised: a link offers it that stands as high at least, on an interrupt that comes before it in order.
pub record IsChained (places : List (List ℕ)) (choice loads : List ℕ) (raised : List Bool) (from ranks : List ℕ) : Type 0 where
  pub linked : (x : ℕ) → is_raised raised x ≡ true → at from x < length choice
  pub offered : (x : ℕ) → is_raised raised x ≡ true → Offers places (at from x) x
  pub higher : (x : ℕ) → is_raised raised x ≡ true → at loads x + 1 ≤ height_at loads raised (at choice (at from x))
  pub before : (x : ℕ) → is_raised raised x ≡ true → at ranks (at choice (at from x)) < at ranks x

-- No link offers an interrupt that is lower than the one that it has.
abbrev pub AreLevelled : List (List ℕ) → List ℕ → List ℕ → List Bool → Type 0
AreLevelled places choice loads raised = (l i : ℕ) → l < length choice → Offers places l i → height_at loads raised (at choice l) ≤ height_at loads raised i

-- A link can move to an interrupt that is lower by two at least.
pub record IsWay (places : List (List ℕ)) (choice loads : List ℕ) (raised : List Bool) (link target : ℕ) : Type 0 where
  pub within : link < length choice
  pub offered : Offers places link target
  pub lower : at loads target + 2 ≤ height_at loads raised (at choice link)

-- all links have interrupts that they offer
abbrev pub ArePlaced : List (List ℕ) → List ℕ → Type 0
ArePlaced places choice = (k : ℕ) → k < length choice → Offers places k (at choice k)

-- the loads change as the links do
abbrev pub AreKept : List ℕ → List ℕ → List ℕ → List ℕ → Type 0
AreKept choice choice' loads loads' = (x : ℕ) → x < length loads → at loads' x + given choice x ≡ at loads x + given choice' x

-- Above some number there are fewer sources than before.
pub record HasLess (loads loads' : List ℕ) : Type 0 where
  pub above : ℕ
  pub less : sum_by (λ x. x - above) loads' < sum_by (λ x. x - above) loads

-- either no link was moved, or the loads are less uneven
abbrev pub IsSameOrLess : List ℕ → List ℕ → List ℕ → List ℕ → Type 0
IsSameOrLess choice choice' loads loads' = ((choice' ≡ choice) × (loads' ≡ loads)) ⊎ HasLess loads loads'

-- Links were moved so that the loads are less uneven.
pub record IsShifted (places : List (List ℕ)) (choice choice' loads loads' : List ℕ) : Type 0 where
  pub placed : ArePlaced places choice'
  pub kept : AreKept choice choice' loads loads'
  pub cheaper : sum_by (λ x. x * x) loads' < sum_by (λ x. x * x) loads
  pub some_less : HasLess loads loads'
  pub no_more : (k : ℕ) → sum_by (λ x. x - k) loads' ≤ sum_by (λ x. x - k) loads
  pub bounded : (c : ℕ) → ((x : ℕ) → at loads x ≤ c) → (x : ℕ) → at loads' x ≤ c

-- How far the marking has come: to the links before the l-th of the i-th interrupt, and to all of the interrupts before it. These
-- offer nothing that is lower, and only the first so many interrupts are raised.
pub record IsMarked (places : List (List ℕ)) (choice loads : List ℕ) (raised : List Bool) (from ranks : List ℕ) (high i l : ℕ) : Type 0 where
  pub chained : IsChained places choice loads raised from ranks
  pub early : (x : ℕ) → is_raised raised x ≡ true → (x < length ranks) × (at ranks x < high)
  pub levelled : (k x : ℕ) → k < length choice → at ranks (at choice k) ≤ i → (at ranks (at choice k) ≡ i → k < l) → Offers places k x → height_at loads raised (at choice k) ≤ height_at loads raised x

-- Links were moved back from the target of a way, and this link is next: its interrupt loses it, which stands for the one that
-- the target gains.
pub record IsMoving (places : List (List ℕ)) (start choice loads : List ℕ) (raised : List Bool) (ranks : List ℕ) (target link to : ℕ) : Type 0 where
  pub within : link < length choice
  pub same : (k : ℕ) → k < length choice → at ranks (at start k) ≤ at ranks (at start link) → at choice k ≡ at start k
  pub placed : ArePlaced places choice
  pub next : Offers places link to
  pub moved : (x : ℕ) → given choice x + cond (to == x) 1 0 ≡ given start x + cond (target == x) 1 0
  pub high : at loads target + 2 ≤ height_at loads raised (at choice link)
