-- How much each frame may ask for without a step being paid: the sum falls while no term begins.
use Rattle.std.specs.Prelude.{ℕ, zero, suc, ◌+◌, ◌*◌, ◌-◌, List, length, Option, Some, None}
use Rattle.aml_objects.specs.declared.entry.FieldUnit.{FieldUnit}
use Rattle.aml_fields.specs.declared.field_units.Unit.{Unit}
use Rattle.aml_fields.specs.Units.{units_of}
use Rattle.aml_frames.specs.declared.frames.Frame.{Frame}
use Rattle.aml_frames.specs.declared.frames.Frame.TheVariants as frames
use Rattle.aml_frames.specs.declared.frames.Next.{Next}
use Rattle.aml_frames.specs.declared.frames.Next.TheVariants as next
use Rattle.aml_frames.specs.declared.addresses.AddressPart.{AddressPart}
use Rattle.aml_frames.specs.declared.addresses.AddressPart.TheVariants as parts
use Rattle.aml_frames.specs.declared.addresses.RegionAccess.{RegionAccess}
use Rattle.aml_frames.specs.declared.addresses.Asked.{Asked}
use Rattle.aml_frames.specs.declared.addresses.Asked.TheVariants as answers
use Rattle.aml_frames.specs.declared.addresses.Waited.{Waited}
use Rattle.aml_frames.specs.declared.addresses.Waited.TheVariants as waits
use Rattle.aml_frames.specs.declared.banked.BankReads.{BankReads}
use Rattle.aml_frames.specs.declared.banked.BankWrites.{BankWrites}
use Rattle.aml_frames.specs.declared.banked.BanksLeft.{BanksLeft}
use Rattle.aml_frames.specs.declared.banked.BanksLeft.TheVariants as banks_left
use Rattle.aml_frames.specs.declared.banked.Selector.{Selector}
use Rattle.aml_frames.specs.declared.indexed.UnitReads.{UnitReads}
use Rattle.aml_frames.specs.declared.indexed.UnitWrites.{UnitWrites}
use Rattle.aml_frames.specs.declared.indexed.UnitsLeft.{UnitsLeft}
use Rattle.aml_frames.specs.declared.indexed.UnitsLeft.TheVariants as units_left
use Rattle.aml_frames.specs.Indexed.{field_accessed}
use Rattle.aml_frames.specs.Banked as banked
use Rattle.aml_objects.specs.declared.value.Value.TheVariants as values
use Rattle.aml_frames.specs.declared.uses.Access.{Access}
use Rattle.aml_frames.specs.declared.uses.Accessed.{Accessed}
use Rattle.aml_frames.specs.declared.uses.Accessed.TheVariants as object
use Rattle.aml_frames.specs.declared.uses.TargetUse.{TargetUse}
use Rattle.aml_frames.specs.declared.uses.TargetUse.TheVariants as uses

-- ---- accesses of fields, by how many calls may be made one inside another: an address has three parts, and one more for each bridge,
-- each of which may be a field

-- more than the units of any field, which has fewer than 2^32 bits
abbrev pub most_units : ℕ
most_units = 4294967296

-- more than the bridges above any device
abbrev pub most_bridges : ℕ
most_bridges = 18446744073709551616

-- a field that is a part of an address, where fewer than so many calls are left
unfoldable pub part_weight : ℕ → ℕ
part_weight zero = 0
part_weight (suc n) = most_units * (4 * (most_bridges * (part_weight n + 20) + 3 * part_weight n + 40) + 20) + 40

-- so many bridges, with so many calls left
unfoldable pub bridges_weight : ℕ → ℕ → ℕ
bridges_weight calls n = n * (part_weight calls + 20)

-- a field of a region, and any field, with so many calls left
abbrev pub region_weight : ℕ → ℕ
region_weight calls = most_bridges * (part_weight calls + 20) + 3 * part_weight calls + 40

abbrev pub field_weight : ℕ → ℕ
field_weight calls = part_weight (suc calls)

abbrev pub accessed_weight : ℕ → Accessed → ℕ
accessed_weight calls (object.Field f) = field_weight calls
accessed_weight calls (object.Unit f) = region_weight calls

abbrev pub access_weight : Access → ℕ
access_weight a = accessed_weight a.calls a.object

-- the most that an access of a term asks for: 32 calls may be made one inside another
unfoldable pub most : ℕ
most = field_weight 32

-- ---- targets

abbrev pub use_weight : TargetUse → ℕ
use_weight (uses.Store v) = most + 4
use_weight (uses.CopyObject v) = most + 4
use_weight (uses.Form v) = most + 4
use_weight (uses.Count k) = 2 * most + 12
use_weight (uses.Inquire i) = most + 4
use_weight uses.Acquire = 4
use_weight uses.Release = 4
use_weight uses.RefOf = 4
use_weight (uses.CondRefOf levels) = most + 20
use_weight (uses.Notify levels) = 4
use_weight (uses.Event k) = 4
use_weight (uses.Wait levels) = 4

abbrev pub target_weight : TargetUse → ℕ
target_weight u = use_weight u + 8

-- ---- parts of an address: those that are left behind one that is asked for, each of which may be a field

abbrev pub address_weight : AddressPart → ℕ → ℕ → ℕ
address_weight parts.Segment calls bridges = bridges_weight calls bridges + 2 * (part_weight calls + 10) + 4
address_weight (parts.Bus seg) calls bridges = bridges_weight calls bridges + part_weight calls + 14
address_weight (parts.Bridge seg bus) calls bridges = bridges_weight calls bridges + part_weight calls + 14
address_weight (parts.Function seg bus) calls bridges = 4

abbrev pub waited_weight : Waited → ℕ
waited_weight (waits.Method depth p body) = 0
waited_weight (waits.Field calls f) = field_weight calls

abbrev pub asked_weight : Asked → ℕ
asked_weight (answers.Known n) = 0
asked_weight (answers.Waits w) = waited_weight w

-- ---- units of a field behind an index field: the index field and the data field are accessed for each, and both once more where bits of
-- a unit are kept

unfoldable pub units_weight : ℕ → List Unit → ℕ
units_weight calls us = length us * (4 * region_weight calls + 20)

abbrev pub reads_weight : UnitReads → ℕ
reads_weight x = units_weight x.field.calls x.left

abbrev pub writes_weight : UnitWrites → ℕ
writes_weight x = units_weight x.field.calls x.left

abbrev pub left_weight : UnitsLeft → ℕ
left_weight (units_left.Reads x) = reads_weight x
left_weight (units_left.Writes x) = writes_weight x

-- ---- units of a field of a bank: the bank field is accessed for each, and once more where bits of a unit are kept

abbrev pub bank_reads_weight : BankReads → ℕ
bank_reads_weight x = units_weight x.field.calls x.left

abbrev pub bank_writes_weight : BankWrites → ℕ
bank_writes_weight x = units_weight x.field.calls x.left

abbrev pub banks_left_weight : BanksLeft → ℕ
banks_left_weight (banks_left.Reads x) = bank_reads_weight x
banks_left_weight (banks_left.Writes x) = bank_writes_weight x

-- the units that are left behind the address of their region
abbrev pub banked_weight : ℕ → Option Selector → FieldUnit → ℕ
banked_weight calls None f = 0
banked_weight calls (Some bank) f = units_weight calls (units_of f.bit_offset f.bits f.access)

unfoldable pub behind_weight : RegionAccess → ℕ
behind_weight a = banked_weight a.calls a.bank a.field.unit

-- ---- Match: each element of a package may be the name of a field, which is read

-- more than the elements of any package
abbrev pub most_elements : ℕ
most_elements = 18446744073709551616

-- so many elements
unfoldable pub search_weight : ℕ → ℕ
search_weight left = left * (most + 10)

-- the most that a search asks for
unfoldable pub most_searched : ℕ
most_searched = search_weight most_elements

-- ---- frames: one that waits for a list weighs 1, and one that waits for a term 3 and what it asks for then

abbrev pub weight : Frame → ℕ
weight (frames.Turn l) = 1
weight (frames.Operand k levels) = most + 12
weight (frames.First k levels) = 2 * most + 22
weight (frames.Second o) = 2 * most + 22
weight (frames.Third levels v u) = most + 12
weight (frames.Quotient levels q) = most + 10
weight (frames.IndexTarget u) = use_weight u + 5
weight (frames.DerefTarget u) = use_weight u + 5
weight (frames.Referent i) = most + 1
weight (frames.Counted k x) = most + 8
weight (frames.Address x) = address_weight x.part x.access.calls (length x.bridges.items) + behind_weight x.access
weight (frames.UnitChosen l u) = left_weight l + 3 * region_weight (field_accessed l).calls + 1
weight (frames.UnitRead l u) = left_weight l + 2 * region_weight (field_accessed l).calls + 1
weight (frames.UnitMerged x n) = writes_weight x + region_weight x.field.calls + 1
weight (frames.UnitWritten x) = writes_weight x + 1
weight (frames.BankRead l u) = banks_left_weight l + region_weight (banked.field_accessed l).calls + 1
weight (frames.BankWrite x offset n) = bank_writes_weight x + 1
weight (frames.Match levels part) = most_searched + 4
weight (frames.Matched x) = search_weight (x.left - 1) + 1
weight _ = 3

abbrev pub next_weight : Next → ℕ
next_weight (next.Flow f) = 3
next_weight (next.Term levels x) = weight x
next_weight (next.Items i) = 4
next_weight (next.Turn l) = 4 + weight (frames.Turn l)
next_weight (next.Scope i p node) = 4 + weight (frames.Scope p node)
next_weight (next.Package k) = 4
next_weight (next.Body b) = 5
next_weight (next.BodyThen b x) = 5 + weight (frames.Address x)
next_weight (next.Target t u) = target_weight u
next_weight (next.Division levels v q) = target_weight (uses.Store v) + weight (frames.Quotient levels q)
next_weight (next.Found levels r) = target_weight (uses.Store (values.Reference r)) + weight frames.Found
next_weight (next.AccessThen a x) = access_weight a + weight x
next_weight (next.IntegerThen n x) = 3 + weight x

-- ---- steps: each pays for what a term asks for when it begins

-- the most that a term asks for: that of a Match, and of any other
unfoldable pub step_weight : ℕ
step_weight = most_searched + (3 * most + 100)

unfoldable pub charged : ℕ → ℕ
charged steps = step_weight * steps
