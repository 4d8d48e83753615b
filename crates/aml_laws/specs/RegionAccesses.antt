-- Accesses that lie within an operation region, accesses of a field's units in it (ACPI 6.5, 5.5.2.4 and 19.6: Field), and reads that ask a
-- PCI-to-PCI bridge for the bus behind it.
use Rattle.std.specs.Prelude.{◌≡◌, ◌≤◌, ◌+◌, ℕ, Contains}
use Rattle.ar_space.specs.declared.space.Width.{Width}
use Rattle.ar_space.specs.declared.space.Width.TheVariants.{W8}
use Rattle.ar_space.specs.declared.space.Place.{Place}
use Rattle.ar_space.specs.declared.space.Place.TheVariants as place
use Rattle.ar_space.specs.Accesses.{Accesses, byte_count}
use Rattle.aml_objects.specs.declared.entry.FieldUnit.{FieldUnit}
use Rattle.aml_objects.specs.declared.entry.OperationRegion.{OperationRegion}
use Rattle.aml_fields.specs.declared.field_units.Unit.{Unit as Access}
use Rattle.aml_fields.specs.declared.region.AddressSpace.{AddressSpace}
use Rattle.aml_fields.specs.declared.region.AddressSpace.TheVariants as spaces
use Rattle.aml_fields.specs.Units.{units_of}

-- the address space of a place, as AML numbers it, and the address, port or register there
abbrev pub space_of : Place → ℕ
space_of (place.Memory address) = 0
space_of (place.Io port) = 1
space_of (place.Pci seg bus dev func reg) = 2

abbrev pub address_of : Place → ℕ
address_of (place.Memory address) = address
address_of (place.Io port) = port
address_of (place.Pci seg bus dev func reg) = reg

-- an access is in the region's address space, begins no earlier than the region and ends no later
pub record LiesWithin (region : OperationRegion) (at : Place) (width : Width) : Type 0 where
  pub space : space_of at ≡ region.space
  pub begins : region.offset ≤ address_of at
  pub ends : address_of at + byte_count width ≤ region.offset + region.length

-- an access is one of those of a field: at the offset of one of its units in the region, and of the field's width
pub record ReachesUnit (field : FieldUnit) (region : OperationRegion) (at : Place) (width : Width) : Type 0 where
  pub unit : Access
  pub is_one : Contains (units_of field.bit_offset field.bits field.access) unit
  pub begins : address_of at ≡ region.offset + unit.offset
  pub wide : width ≡ field.access

-- a place is one of memory, of the ports, or of the registers of a PCI function
pub data IsPlaceOf : AddressSpace → Place → Type 0 where
  is_address : (n : ℕ) → IsPlaceOf spaces.Memory (place.Memory n)
  is_port : (n : ℕ) → IsPlaceOf spaces.Io (place.Io n)
  is_register : (seg bus dev func n : ℕ) → IsPlaceOf (spaces.Pci seg bus dev func) (place.Pci seg bus dev func n)

-- one byte of the configuration header of a PCI function: its header type, or its secondary bus number (PCI-to-PCI Bridge Architecture
-- 1.2, 3.2)
pub data AsksBridge : Place → Width → Type 0 where
  header_type : (seg bus dev func : ℕ) → AsksBridge (place.Pci seg bus dev func 14) W8
  secondary_bus : (seg bus dev func : ℕ) → AsksBridge (place.Pci seg bus dev func 25) W8

-- the space before, and what any number of reads and writes of units of a field in a region make of it, one after another
pub data ReachedWithin {S : Type 0} (accesses : Accesses S) (field : FieldUnit) (region : OperationRegion) (space : AddressSpace) (before : S) : S → Type 0 where
  none : ReachedWithin accesses field region space before before
  read : (s : S) (at : Place) (width : Width) → LiesWithin region at width → ReachesUnit field region at width → IsPlaceOf space at → ReachedWithin accesses field region space before s
      → ReachedWithin accesses field region space before (accesses.reads s at width).1
  written : (s : S) (at : Place) (width : Width) (value : ℕ) → LiesWithin region at width → ReachesUnit field region at width → IsPlaceOf space at → ReachedWithin accesses field region space before s
      → ReachedWithin accesses field region space before (accesses.writes s at width value).1
