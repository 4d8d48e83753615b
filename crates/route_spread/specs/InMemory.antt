-- What holds of an assignment and its marks in memory.
use Rattle.std.specs.Prelude.{◌≡◌, ℕ, ◌+◌, ◌<◌, ◌≤◌, List, Option, Contains, MatchOption, length}
use Rattle.route_spread.specs.declared.assignment.Assignment.{Assignment}
use Rattle.route_spread.specs.declared.order.Order.{Order}
use Rattle.route_spread.specs.declared.marking.Marks.{Marks}
use Rattle.route_spread.specs.declared.marking.Way.{Way}
use Rattle.route_numbers.specs.Numbers.{lists_of}
use Rattle.route_spread.specs.Marks.{at, height_at, AreHolders, AreLevelled, AreRaised, IsArranged, IsBetween, IsChained, IsLater, IsMarked, IsPromoted, IsShifted, IsWay}
use Rattle.route_spread.specs.Assignments.{HasRoom, IsAssigned}

-- what a marking needs of an assignment
pub record CanBeMarked (a : Assignment) : Type 0 where
  pub assigned : IsAssigned (lists_of a.offers.items) a.choice.items a.loads.items
  pub first : length a.holders.first.items ≡ length a.loads.items
  pub next : length a.holders.next.items ≡ length a.choice.items

abbrev pub KnowsHolders : Assignment → Type 0
KnowsHolders a = AreHolders a.choice.items a.holders.first.items a.holders.next.items

abbrev pub WasPromoted : ℕ → Order → Order → Type 0
WasPromoted i o o' = IsPromoted i o.high o.interrupts.items o'.interrupts.items o.ranks.items o'.ranks.items

abbrev pub HasRoomFor : ℕ → Marks → Type 0
HasRoomFor count m = HasRoom count m.raised.items m.from.items m.order.interrupts.items m.order.ranks.items

abbrev pub AreArrangedAt : List ℕ → Marks → ℕ → Type 0
AreArrangedAt loads m top = IsArranged loads m.raised.items m.order.interrupts.items m.order.ranks.items m.order.high top

abbrev pub AreArrangedFor : List ℕ → Marks → ℕ → Type 0
AreArrangedFor loads m i = IsBetween loads m.raised.items m.order.interrupts.items m.order.ranks.items m.order.high i

-- the interrupts that are as high as a number were counted, and nothing else was done
pub record IsCounted (loads : List ℕ) (m m' : Marks) (top i : ℕ) : Type 0 where
  pub raised : m'.raised.items ≡ m.raised.items
  pub from : m'.from.items ≡ m.from.items
  pub interrupts : m'.order.interrupts.items ≡ m.order.interrupts.items
  pub ranks : m'.order.ranks.items ≡ m.order.ranks.items
  pub arranged : AreArrangedAt loads m' top
  pub more : m.order.high ≤ m'.order.high
  pub passed : i < m'.order.high

abbrev pub HaveRaised : List ℕ → Marks → Marks → ℕ → ℕ → (ℕ → Type 0) → Type 0
HaveRaised loads m m' link top Among = AreRaised loads m.raised.items m'.raised.items m.from.items m'.from.items link top Among

-- some interrupts are as high as a number, or one that was found is lower by two at least
abbrev pub AreRaisedOrFar : List ℕ → List ℕ → Marks → ℕ → Option ℕ → Type 0
AreRaisedOrFar loads offers m top found = MatchOption found ((i : ℕ) → Contains offers i → top ≤ height_at loads m.raised.items i) (λ i. Contains offers i × (at loads i + 2 ≤ top))

abbrev pub AreLater : Marks → Marks → Type 0
AreLater m m' = IsLater m.order.high m'.order.high m.order.ranks.items m'.order.ranks.items

-- all links of the interrupts before the i-th were marked
abbrev pub HaveMarked : Assignment → Marks → ℕ → Type 0
HaveMarked a m i = AreArrangedFor a.loads.items m i × IsMarked (lists_of a.offers.items) a.choice.items a.loads.items m.raised.items m.from.items m.order.ranks.items m.order.high i 0

-- a way was found, and why each interrupt on it is raised
abbrev pub HaveWay : Assignment → Marks → Way → Type 0
HaveWay a m w = IsWay (lists_of a.offers.items) a.choice.items a.loads.items m.raised.items w.link w.target × IsChained (lists_of a.offers.items) a.choice.items a.loads.items m.raised.items m.from.items m.order.ranks.items

-- no link offers an interrupt that is lower
abbrev pub HaveLevelled : Assignment → Marks → Type 0
HaveLevelled a m = AreLevelled (lists_of a.offers.items) a.choice.items a.loads.items m.raised.items

-- links were moved so that the loads are less uneven
abbrev pub WereMoved : Assignment → Assignment → Type 0
WereMoved a a' = IsShifted (lists_of a.offers.items) a.choice.items a'.choice.items a.loads.items a'.loads.items
