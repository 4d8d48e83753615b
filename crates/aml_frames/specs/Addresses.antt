-- Accesses of fields of regions, and the addresses that they ask for (ACPI 6.5, 5.5.2.4, 6.1.1, 6.5.5 and 6.5.6): a region of PCI_Config
-- lies in the registers of a function, whose segment group, bus and address are asked for in this order, and behind the bus the address
-- of each bridge above it.
use Rattle.std.specs.Prelude.{◌≡◌, ℕ, List, [], ◌∷◌, ◌++◌, Option, Some, None, Ok, Err}
use Rattle.ar_space.specs.Accesses.{Accesses}
use Rattle.ar_space.specs.Outcome.{Outcome, NotMemory}
use Rattle.ar_space.specs.Change.{give, stop, settle, ◌>>=◌}
use Rattle.aml_path.specs.declared.segment.Seg.{Seg}
use Rattle.aml_objects.specs.declared.entry.Bank.{Bank}
use Rattle.aml_objects.specs.declared.entry.FieldUnit.{FieldUnit}
use Rattle.aml_objects.specs.declared.entry.OperationRegion.{OperationRegion}
use Rattle.aml_fields.specs.declared.region.AddressSpace.{AddressSpace}
use Rattle.aml_fields.specs.declared.region.Region.{Region}
use Rattle.aml_fields.specs.Regions.{read_field, write_field}
use Rattle.aml_world.specs.declared.fields.regions.RegionField.{RegionField}
use Rattle.aml_world.specs.declared.fields.regions.RegionSpace.{RegionSpace}
use Rattle.aml_world.specs.state.State.{State, on_space}
use Rattle.aml_world.specs.state.Run.{Run, lift}
use Rattle.aml_world.specs.fields.PciFunctions.{adr, segment_group, base_bus}
use Rattle.aml_world.specs.fields.Bridges.{bridges_above, secondary_bus}
use Rattle.aml_world.specs.fields.Regions.{space_numbered, integer_only, pci_space, region_declared, field_declared}
use Rattle.aml_world.specs.fields.Fields.{inherited, bus_behind_all, pci_address, space_at, field_part}
use Rattle.aml_meaning.specs.declared.flow.Flow.{Flow}
use Rattle.aml_meaning.specs.declared.flow.Flow.TheVariants as flow
use Rattle.aml_meaning.specs.Tasks.{Task}
use Rattle.aml_meaning.specs.Calls.{value_of_call}
use Rattle.aml_meaning.specs.FieldCalls.{method_integer}
use Rattle.aml_frames.specs.declared.addresses.AddressPart.{AddressPart}
use Rattle.aml_frames.specs.declared.addresses.AddressPart.TheVariants as parts
use Rattle.aml_frames.specs.declared.addresses.Asked.{Asked}
use Rattle.aml_frames.specs.declared.addresses.Asked.TheVariants as answers
use Rattle.aml_frames.specs.declared.addresses.Waited.{Waited}
use Rattle.aml_frames.specs.declared.addresses.Waited.TheVariants as waits
use Rattle.aml_frames.specs.declared.addresses.PciAccess.{PciAccess}
use Rattle.aml_frames.specs.declared.addresses.RegionAccess.{RegionAccess}
use Rattle.aml_frames.specs.declared.banked.Selector.{Selector}
use Rattle.aml_frames.specs.declared.uses.Doing.{Doing}
use Rattle.aml_frames.specs.declared.uses.Doing.TheVariants as doing
use Rattle.aml_frames.specs.Banked.{field_at, units_done}
use Rattle.aml_frames.specs.Uses.{asking, read_as}

module _ {S : Type 0} (accesses : Accesses S) where
  -- what is done with a field of a region that was found
  abbrev pub done_in : Doing → RegionField → Region → Run S Flow
  done_in (doing.Read r) f x = do
    bytes ← lift (on_space (read_field accesses x f.unit))
    read_as r f.unit.bits bytes
  done_in (doing.Write bytes) f x = do
    done ← lift (on_space (write_field accesses x f.unit bytes))
    give flow.Next

module _ {S : Type 0} (accesses : Accesses S) (ev : Task → Run S Flow) where
  -- what is done with a field of a region that was found, or of a bank of it
  abbrev pub located_done : Option Selector → RegionAccess → Region → Run S Flow
  located_done None a x = done_in accesses a.doing a.field x
  located_done (Some bank) a x = units_done accesses ev (field_at a.calls bank x a.field.unit) a.doing

  -- the address space of the region is known
  abbrev pub space_known : RegionAccess → AddressSpace → Run S Flow
  space_known a space = located_done a.bank a (record { space = space; offset = a.offset; length = a.length })

  -- an access, with the device in whose registers its region lies
  unfoldable pub function_known : RegionAccess → ℕ → ℕ → ℕ → Run S Flow
  function_known a seg bus address = do
    space ← settle (pci_space seg bus address)
    space_known a space

  unfoldable pub bus_known : RegionAccess → List Seg → ℕ → ℕ → Run S Flow
  bus_known a device seg bus = do
    address ← asking accesses ev a.calls (device ++ adr ∷ [])
    function_known a seg bus address

  -- the bridges that are left above the device, from the outermost on, with the bus of the first of them
  unfoldable pub bridges_left : RegionAccess → List Seg → List (List Seg) → ℕ → ℕ → Run S Flow
  bridges_left a device bridges seg bus = do
    behind ← bus_behind_all accesses (asking accesses ev a.calls) seg bus bridges
    bus_known a device seg behind

  -- the address of a bridge is known, with the bus that it is on, and the bridges below it
  unfoldable pub bridge_known : RegionAccess → List Seg → List (List Seg) → ℕ → ℕ → ℕ → Run S Flow
  bridge_known a device bridges seg bus address = do
    behind ← lift (on_space (secondary_bus accesses seg bus address))
    bridges_left a device bridges seg behind

  -- a bridge with the bus that it is on, and the bridges below it
  unfoldable pub bridge_asked : RegionAccess → List Seg → List Seg → List (List Seg) → ℕ → ℕ → Run S Flow
  bridge_asked a device bridge bridges seg bus = do
    address ← asking accesses ev a.calls (bridge ++ adr ∷ [])
    bridge_known a device bridges seg bus address

  unfoldable pub segment_known : RegionAccess → List Seg → List (List Seg) → ℕ → Run S Flow
  segment_known a device bridges seg = do
    bus ← inherited accesses (asking accesses ev a.calls) base_bus device
    bridges_left a device bridges seg bus

  unfoldable pub bridges_known : RegionAccess → List Seg → List (List Seg) → Run S Flow
  bridges_known a device bridges = do
    seg ← inherited accesses (asking accesses ev a.calls) segment_group device
    segment_known a device bridges seg

  unfoldable pub device_known : RegionAccess → List Seg → Run S Flow
  device_known a device = do
    bridges ← lift (bridges_above device)
    bridges_known a device bridges

  -- an access of a field of a region of a kind that was declared in a scope, and of one of PCI_Config
  abbrev pub space_run : RegionAccess → RegionSpace → List Seg → Run S Flow
  space_run a kind scope = do
    space ← space_at accesses (asking accesses ev a.calls) kind scope
    space_known a space

  abbrev pub pci_run : RegionAccess → List Seg → Run S Flow
  pci_run a scope = do
    space ← pci_address accesses (asking accesses ev a.calls) scope
    space_known a space

  -- a field of a bank of the region with the number of a declaration
  abbrev pub bank_access : ℕ → ℕ → Selector → FieldUnit → Doing → OperationRegion → RegionAccess
  bank_access calls n bank f d r = record { calls = calls; field = record { region = n; unit = f }; bank = Some bank; offset = r.offset; length = r.length; doing = d }

  abbrev pub banked_done : ℕ → ℕ → Bank → FieldUnit → Doing → Run S Flow
  banked_done calls n b f d = do
    bank ← lift (field_declared b.field)
    r ← lift (region_declared n)
    space_run (bank_access calls n (record { field = bank; value = b.value }) f d r.1) (space_numbered r.1.space) r.0

  -- the part of the address that was asked for is known
  abbrev pub part_by : AddressPart → RegionAccess → List Seg → List (List Seg) → ℕ → Run S Flow
  part_by parts.Segment a device bridges n = segment_known a device bridges n
  part_by (parts.Bus seg) a device bridges n = bridges_left a device bridges seg n
  part_by (parts.Bridge seg bus) a device bridges n = bridge_known a device bridges seg bus n
  part_by (parts.Function seg bus) a device bridges n = function_known a seg bus n

  abbrev pub part_known : PciAccess → ℕ → Run S Flow
  part_known x n = part_by x.part x.access x.device x.bridges.items n

  -- what gives a part of an address that isn't known: a control method, where so many are being called, or a field
  abbrev pub waited_run : Waited → Run S ℕ
  waited_run (waits.Method depth p body) = method_integer accesses ev depth p body
  waited_run (waits.Field calls f) = field_part accesses (asking accesses ev calls) f

  abbrev pub asked_run : Asked → Run S ℕ
  asked_run (answers.Known n) = give n
  asked_run (answers.Waits w) = waited_run w

  abbrev pub asked_left : Outcome Asked → Run S ℕ
  asked_left (Ok a) = asked_run a
  asked_left (Err e) = stop e

  -- what is asked for is known, or is what is waited for, unless memory ran out
  pub record Asks (r : Outcome Asked) (after : State S × ℕ) (m : Run S ℕ) (before : State S × ℕ) : Type 0 where
    pub is : NotMemory r → m before ≡ asked_left r after

  -- what is waited for, and what is left to do behind it
  abbrev pub waited_met : Waited → PciAccess → Run S Flow
  waited_met w x = waited_run w >>= part_known x

  -- a part of an address is what a control method gives, or the bits of a field
  abbrev pub part_met : PciAccess → Flow → Run S Flow
  part_met x f = do
    n ← settle (integer_only (value_of_call f))
    part_known x n
