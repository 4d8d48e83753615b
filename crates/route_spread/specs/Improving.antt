-- What holds of links on interrupts in memory, and of the moves that make their loads less uneven.
use Rattle.std.specs.Prelude.{◌≡◌, ℕ, List, length}
use Rattle.route_spread.specs.declared.assignment.Assignment.{Assignment}
use Rattle.route_spread.specs.declared.sharing.Sharing.{Sharing}
use Rattle.route_numbers.specs.Numbers.{lists_of}
use Rattle.route_spread.specs.Marks.{AreKept, ArePlaced, IsSameOrLess}
use Rattle.route_spread.specs.InMemory.{CanBeMarked, HasRoomFor, HaveLevelled}
use Rattle.route_spread.specs.Assignments.{IsSharing}

-- room for a search, and loads that it can count with
pub record CanBeImproved (s : Sharing) : Type 0 where
  pub marked : CanBeMarked s.assignment
  pub room : HasRoomFor (length s.assignment.loads.items) s.marks

-- the links of some offers on the interrupts of an assignment
pub record IsSharingOf (offers : List (List ℕ)) (wired : List (ℕ × ℕ)) (a : List ℕ) (s : Sharing) : Type 0 where
  pub sharing : IsSharing offers wired a s.numbers.items (lists_of s.assignment.offers.items) s.assignment.choice.items s.assignment.loads.items
  pub improved : CanBeImproved s

-- the same links with the same offers
pub record HasSameOffers (s s' : Sharing) : Type 0 where
  pub numbers : s'.numbers ≡ s.numbers
  pub offers : s'.assignment.offers ≡ s.assignment.offers
  pub links : length s'.assignment.choice.items ≡ length s.assignment.choice.items
  pub interrupts : length s'.assignment.loads.items ≡ length s.assignment.loads.items

-- no link was moved, and none offers an interrupt that is lower
pub record WereLevelled (s s' : Sharing) : Type 0 where
  pub choice : s'.assignment.choice ≡ s.assignment.choice
  pub loads : s'.assignment.loads ≡ s.assignment.loads
  pub levelled : HaveLevelled s.assignment s'.marks

-- either no link was moved, or the loads are less uneven
pub record IsImproved (a a' : Assignment) : Type 0 where
  pub placed : ArePlaced (lists_of a.offers.items) a'.choice.items
  pub kept : AreKept a.choice.items a'.choice.items a.loads.items a'.loads.items
  pub same_or_less : IsSameOrLess a.choice.items a'.choice.items a.loads.items a'.loads.items
