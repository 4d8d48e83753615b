-- The bipartite graph of links and interrupts, matchings in it, and the searches for augmenting paths and for a Hall set.
use Rattle.std.specs.Global.{Vec}
use Rattle.std.specs.Prelude.{◌≡◌, ◌⊎◌, ◌+◌, ◌-◌, ◌<◌, ◌≤◌, ℕ, Bool, true, false, Option, Some, None, IsSome, List, [], AllPairs, length, slice_index_or, take}
use Rattle.std.specs.List.Sorted.{IsStrictlyIncreasing}
use Rattle.route_model.specs.Links.{offers_of}
use Rattle.route_model.specs.Placement.{is_reached, place_of, taken, Offers, IsPlacement, IsWhole}
use Rattle.route_model.specs.Routing.{wired_to}
use Rattle.route_solve.specs.declared.assign.Buffers.{Buffers}
use Rattle.route_solve.specs.declared.assign.Offered.{Offered}
use Rattle.route_solve.specs.declared.graph.Graph.{Graph}
use Rattle.route_solve.specs.declared.hall.HallSearch.{HallSearch}
use Rattle.route_solve.specs.declared.matching.Matching.{Matching}
use Rattle.route_solve.specs.declared.search.Search.{Search}
use Rattle.route_solve.specs.Certificate.{IsCertificate, IsWithinLeast}
use Rattle.route_solve.specs.Floor.{IsFloor}
use Rattle.route_solve.specs.Capacities.{at, capacity_at, IsCounted}
use Rattle.route_solve.specs.Levels.{IsTrail, IsQueue, IsKept, IsLonger, AreClosed, AreDone, IsFound}
use Rattle.route_numbers.specs.Numbers.{lists_of, AreSources, AreTheOffered, IsNumbered}
use Rattle.route_solve.specs.Problems.{RoutingProblem}
use Rattle.route_solve.specs.Ready.{AreReady, IsFurther, IsSearch}
use Rattle.route_solve.specs.Rows.{AreRows, HasRows}

-- what each link offers
abbrev pub edges : Graph → List (List ℕ)
edges g = lists_of g.offers.now

-- how many links may have an interrupt
abbrev pub capacity : Graph → ℕ → ℕ
capacity g = capacity_at g.limit g.sources.now

-- how many interrupts a graph has
abbrev pub interrupts_in : Graph → ℕ
interrupts_in g = length g.sources.now

-- at most 256 links, which offer known interrupts in ascending order, and the rows that say the same
pub record AreEdges (offers : List (Vec ℕ)) (rows : List ℕ) (interrupts : ℕ) : Type 0 where
  pub few : length offers ≤ 256
  pub some : (l : ℕ) → l < length offers → 0 < length (slice_index_or (lists_of offers) l [])
  pub ascending : (l : ℕ) → l < length offers → AllPairs (λ m n. m < n) (slice_index_or (lists_of offers) l [])
  pub below : (l i : ℕ) → Offers (lists_of offers) l i → i < interrupts
  pub bits : AreRows (lists_of offers) interrupts rows

abbrev pub IsGraph : Graph → Type 0
IsGraph g = AreEdges g.offers.now g.rows.now (interrupts_in g)

-- The problem's graph: the places of its interrupts are those of their numbers.
pub record IsNumbering (p : RoutingProblem) (numbers : List ℕ) (offers : List (Vec ℕ)) (rows sources : List ℕ) : Type 0 where
  pub ascending : IsStrictlyIncreasing numbers
  pub offered : AreTheOffered (offers_of p.links) numbers
  pub long : length offers ≡ length p.links
  pub numbered : IsNumbered (offers_of p.links) numbers (lists_of offers)
  pub wired : AreSources numbers p.wired sources
  pub bits : HasRows (offers_of p.links) numbers rows

abbrev pub Represents : Graph → Offered → Type 0
Represents g o = IsNumbering o.problem.now o.numbers.now g.offers.now g.rows.now g.sources.now

-- the offered interrupts by their numbers, and their rows
pub record HasNumbers (o : Offered) : Type 0 where
  pub ascending : IsStrictlyIncreasing o.numbers.now
  pub offered : AreTheOffered (offers_of o.problem.now.links) o.numbers.now
  pub bits : HasRows (offers_of o.problem.now.links) o.numbers.now o.rows.now

-- the greatest number of sources that are wired to one interrupt
pub record IsGreatestWired (wired : List (ℕ × ℕ)) (greatest : ℕ) : Type 0 where
  pub small : greatest ≤ 4096
  pub reached : IsFloor wired greatest
  pub above : (i : ℕ) → wired_to wired i ≤ greatest

-- Some links have interrupts that they offer, no interrupt more links than its capacity, and the counts are those of the links.
pub record IsMatched (offers : List (Vec ℕ)) (sources : List ℕ) (limit : ℕ) (m : Matching) : Type 0 where
  pub links : length m.choice.items ≡ length offers
  pub interrupts : length m.counts.items ≡ length sources
  pub counted : IsCounted m.counts.items m.choice.items
  pub placed : IsPlacement (lists_of offers) (capacity_at limit sources) m.choice.items

abbrev pub IsMatching : Graph → Matching → Type 0
IsMatching g m = IsMatched g.offers.now g.sources.now g.limit m

-- the same with an interrupt for each link
pub record IsComplete (g : Graph) (m : Matching) : Type 0 where
  pub matching : IsMatching g m
  pub whole : IsWhole m.choice.items

-- the same with an interrupt for none
pub record IsEmpty (g : Graph) (m : Matching) : Type 0 where
  pub matching : IsMatching g m
  pub unplaced : (k : ℕ) → place_of m.choice.items k ≡ None

-- a link that has no interrupt
pub record IsUnplaced (m : Matching) (link : ℕ) : Type 0 where
  pub within : link < length m.choice.items
  pub unplaced : place_of m.choice.items link ≡ None

-- how many of the links before one have each interrupt
pub record IsCountBefore (g : Graph) (m : Matching) (kept : List ℕ) (link : ℕ) : Type 0 where
  pub long : length kept ≡ interrupts_in g
  pub counted : IsCounted kept (take link m.choice.items)

-- a search for augmenting paths has marks and ways for so many interrupts
pub record IsSized (interrupts : ℕ) (s : Search) : Type 0 where
  pub words : length s.left ≡ 4
  pub marks : length s.visited.items ≡ interrupts
  pub ways : length s.ways.items ≡ interrupts

-- how far a search for augmenting paths has come
pub record Searches (g : Graph) (m : Matching) (s : Search) : Type 0 where
  pub sized : IsSized (interrupts_in g) s
  pub search : IsSearch (edges g) (capacity g) m.choice.items g.low s.left s.visited.items s.ways.items s.found

-- every interrupt that is below its capacity is visited
abbrev pub HasVisitedFree : Graph → Matching → Search → Type 0
HasVisitedFree g m s = (i : ℕ) → i < interrupts_in g → taken m.choice.items i < capacity g i → is_reached s.visited.items i ≡ true

-- the interrupts of all links that may be moved and offer a given one are visited
abbrev pub HasVisitedFrom : Graph → Matching → Search → ℕ → Type 0
HasVisitedFrom g m s i = (l x : ℕ) → g.low ≤ l → Offers (edges g) l i → place_of m.choice.items l ≡ Some x → is_reached s.visited.items x ≡ true

-- what a search for augmenting paths adds
abbrev pub Extends : Search → Search → Type 0
Extends s t = IsFurther s.visited.items s.ways.items s.found t.visited.items t.ways.items t.found

-- No augmenting path begins at a link: it offers no interrupt that is ready.
pub record IsBlocked (g : Graph) (m : Matching) (link : ℕ) : Type 0 where
  pub ready : List Bool
  pub known : length ready ≡ interrupts_in g
  pub all : AreReady (edges g) (capacity g) m.choice.items g.low ready
  pub none : (i : ℕ) → Offers (edges g) link i → is_reached ready i ≡ false

-- a search for a Hall set has marks and a queue for so many links, and marks for so many interrupts
pub record IsSizedFor (links interrupts : ℕ) (s : HallSearch) : Type 0 where
  pub marks : length s.reached.items ≡ links
  pub queue : length s.queue.items ≡ links
  pub seen : length s.seen.items ≡ interrupts

abbrev pub IsHallSized : Graph → HallSearch → Type 0
IsHallSized g s = IsSizedFor (length g.offers.now) (interrupts_in g) s

-- how far a search for a Hall set has come
pub record SearchesHall (g : Graph) (m : Matching) (s : HallSearch) : Type 0 where
  pub sized : IsHallSized g s
  pub trail : IsTrail (edges g) m.choice.items g.low s.queue.items s.tail
  pub listed : IsQueue s.reached.items s.queue.items s.tail
  pub closed : AreClosed (capacity g) m.choice.items g.low s.reached.items s.seen.items

-- a reached link offers an interrupt
abbrev pub IsOfferedByReached : Graph → HallSearch → ℕ → Type 0
IsOfferedByReached g s i = (k : ℕ) × (k < s.tail) × Offers (edges g) (at s.queue.items k) i

-- all links that have an interrupt and may be moved are reached
abbrev pub HasReachedHolders : Graph → Matching → HallSearch → ℕ → Type 0
HasReachedHolders g m s i = (l : ℕ) → g.low ≤ l → place_of m.choice.items l ≡ Some i → is_reached s.reached.items l ≡ true

-- all that a link offers is seen
abbrev pub AreSeen : Graph → HallSearch → ℕ → Type 0
AreSeen g s link = (i : ℕ) → Offers (edges g) link i → is_reached s.seen.items i ≡ true

-- a link offers an interrupt that is below its capacity
abbrev pub OffersFree : Graph → Matching → ℕ → ℕ → Type 0
OffersFree g m link i = Offers (edges g) link i × (taken m.choice.items i < capacity g i)

-- all that the reached links offer is seen
abbrev pub IsExplored : Graph → HallSearch → Type 0
IsExplored g s = AreDone (edges g) s.seen.items s.queue.items 0 s.tail

-- a reached link, by its place in the queue, offers an interrupt that is below its capacity
abbrev pub FindsFree : Graph → Matching → HallSearch → ℕ × ℕ → Type 0
FindsFree g m s f = IsFound (edges g) (capacity g) m.choice.items s.queue.items s.tail f.0 f.1

-- the links that a search for a Hall set adds have interrupts
abbrev pub AddsHolders : Matching → HallSearch → HallSearch → Type 0
AddsHolders m s t = (k : ℕ) → s.tail ≤ k → k < t.tail → IsSome (place_of m.choice.items (at t.queue.items k))

-- what a search for a Hall set adds
pub record ExtendsHall (s t : HallSearch) : Type 0 where
  pub longer : IsLonger s.queue.items s.tail t.queue.items t.tail
  pub reached : IsKept s.reached.items t.reached.items
  pub seen : IsKept s.seen.items t.seen.items

-- the buffers of both searches are for so many links and interrupts
pub record AreSized (links interrupts : ℕ) (b : Buffers) : Type 0 where
  pub kept : length b.kept.items ≡ interrupts
  pub search : IsSized interrupts b.search
  pub hall : IsSizedFor links interrupts b.hall

abbrev pub AreBuffers : Graph → Buffers → Type 0
AreBuffers g b = AreSized (length g.offers.now) (interrupts_in g) b

-- the least limit within which all links can be placed: if it is above the one that the graph has, there is a certificate
-- against the limit of one less
pub record IsLeastLimit (g : Graph) (limit : ℕ) (reached : List Bool) : Type 0 where
  pub above : g.limit ≤ limit
  pub small : limit ≤ g.limit + 256
  pub shown : (limit ≡ g.limit) ⊎ ((g.limit < limit) × IsCertificate (edges g) (capacity_at (limit - 1) g.sources.now) reached)

-- the same for a problem, from a floor on, its greatest wired count: a placement within the limit, and the links
-- that were reached for a limit of one less
pub record IsLeastLimitFor (p : RoutingProblem) (floor limit : ℕ) (reached : List Bool) : Type 0 where
  pub small : limit ≤ 4352
  pub marks : length reached ≡ length p.links
  pub placement : List (Option ℕ)
  pub within_least : IsWithinLeast (offers_of p.links) p.wired floor limit placement reached
