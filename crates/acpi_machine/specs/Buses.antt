-- The bus that a routing table is for (ACPI 6.5, 6.2.13, 6.5.5 and 6.5.6): the one on which the devices of its pins are. It is found as the
-- bus of a PCI function is where AML accesses its configuration space (5.5.2.4).
use Rattle.std.specs.Prelude.{ℕ, nat_lt, ◌==◌, ◌&&◌, Bool, false, Option, Some, None, List, length, codes, Ok, Err, refl, if◌then◌else◌}
use Rattle.ar_space.specs.declared.refusal.Refusal.TheVariants as refusal
use Rattle.ar_space.specs.declared.refusal.FieldFault.TheVariants.{RegionLimit}
use Rattle.ar_space.specs.Accesses.{Accesses}
use Rattle.ar_space.specs.Outcome.{Outcome}
use Rattle.ar_space.specs.Change.{Change, settle, ◌>>=◌}
use Rattle.aml_path.specs.declared.segment.Seg.{Seg}
use Rattle.aml_world.specs.declared.fields.pci_functions.Sought.TheVariants as sought
use Rattle.aml_world.specs.fields.Bridges.{with_scope, bridges_over}
use Rattle.aml_world.specs.fields.Fields.{inherited, bus_behind_all}
use Rattle.aml_world.specs.fields.PciFunctions.{segment_group, base_bus, nearest, behind_asked}
use Rattle.aml_world.specs.state.Run.{Run, lift}
use Rattle.aml_world.specs.state.State.{State}
use Rattle.aml_meaning.specs.Calling.{ending, with_steps}
use Rattle.aml_meaning.specs.FieldCalls.{called_at}
use Rattle.aml_meaning.specs.Meaning.{meaning}
use Rattle.acpi_machine.specs.Calls.{on_world, unless_spent}
use Rattle.acpi_machine.specs.MachineStates.{MachineState}
use Rattle.acpi_machine.specs.declared.buses.PciBus.{PciBus}

-- the name of a routing table
abbrev pub prt : Seg
prt = record { bytes = codes "_PRT"; valid = refl }

-- a segment group has 16 bits, and a bus has 8
abbrev pub bus_numbered : ℕ → ℕ → Outcome PciBus
bus_numbered segment bus =
    if nat_lt segment 65536 && nat_lt bus 256 then Ok (record { segment = segment; bus = bus }) else Err (refusal.Field RegionLimit)

-- the nearest of a device and those above it is the device itself
abbrev pub is_itself : Option (List Seg) → List Seg → Bool
is_itself None device = false
is_itself (Some p) device = length p == length device

-- the bridges from the nearest base bus number down to a device, which is itself among them where it is one
unfoldable pub bridges_down_to : {S : Type 0} → List Seg → Change (State S) (List (List Seg))
bridges_down_to device w = (Ok (with_scope w.names.map device (bridges_over w.names.map device (length device))), w)

-- accesses: what the register space makes of them
module _ {S : Type 0} (accesses : Accesses S) where
  -- what an object of the address answers, asked as for a field of PCI_Config that is read for a caller
  abbrev pub address_part : List Seg → Run S ℕ
  address_part = called_at accesses (meaning accesses) 1

  -- `_SEG` and `_BBN` of the nearest of the device with the table and the scopes above it; then, from there down to the device itself, the bus
  -- behind each bridge. In the core profile neither the device nor one above it may be a bridge.
  unfoldable pub bus_of_table : List Seg → Run S PciBus
  bus_of_table device = do
    bridge ← lift (nearest sought.Bridge device)
    reached ← lift (behind_asked bridge)
    bridges ← lift (bridges_down_to device)
    segment ← inherited accesses address_part segment_group device
    bus ← inherited accesses address_part base_bus device
    behind ← bus_behind_all accesses address_part segment bus bridges
    settle (bus_numbered segment behind)

  -- in one evaluation
  unfoldable pub bus_answered : List Seg → Change (MachineState S) PciBus
  bus_answered device s = on_world (ending (with_steps s.steps (bus_of_table device))) s

  unfoldable pub bus_found : List Seg → Change (MachineState S) PciBus
  bus_found device = unless_spent (bus_answered device)
