-- The devices of a machine, and the pins of their routing tables (ACPI 6.5, 6.2.13).
use Rattle.std.specs.Prelude.{List, [], ◌++◌, map, Bool, true, false, Option, Some, None, Ok, if◌then◌else◌}
use Rattle.std.specs.List.{filter_map}
use Rattle.ar_space.specs.Accesses.{Accesses}
use Rattle.ar_space.specs.Change.{Change, give, ◌>>=◌}
use Rattle.aml_path.specs.declared.segment.Seg.{Seg}
use Rattle.acpi_machine.specs.Buses.{prt}
use Rattle.acpi_machine.specs.Children.{has_child}
use Rattle.acpi_machine.specs.MachineStates.{MachineState}
use Rattle.acpi_machine.specs.Kinds as kind
use Rattle.acpi_machine.specs.Kinds.{Kind, kinds_walked}
use Rattle.acpi_prt.specs.declared.pin.Pin.{Pin}
use Rattle.acpi_prt.specs.RoutingTables.{routing_table}
use Rattle.acpi_links.specs.Folds.{folded}

abbrev pub is_device : Kind → Bool
is_device kind.Scope = false
is_device kind.Device = true
is_device kind.Processor = false
is_device kind.PowerResource = false
is_device kind.ThermalZone = false
is_device (kind.Method n) = false
is_device kind.Uninitialized = false
is_device kind.Integer = false
is_device kind.String = false
is_device kind.Buffer = false
is_device kind.Package = false
is_device kind.Reference = false
is_device kind.FieldUnit = false
is_device kind.BufferField = false
is_device kind.Region = false
is_device kind.Mutex = false
is_device kind.Event = false
is_device (kind.Alias p) = false

abbrev pub device_path : List Seg × Kind → Option (List Seg)
device_path node = if is_device node.1 then Some node.0 else None

-- the paths of all devices, in path order
unfoldable pub devices : {S : Type 0} → MachineState S → List (List Seg)
devices s = filter_map device_path (kinds_walked s.world.names.map)

unfoldable pub devices_listed : {S : Type 0} → Change (MachineState S) (List (List Seg))
devices_listed s = (Ok (devices s), s)

-- each pin with the device that has the routing table
abbrev pub with_device : List Seg → List Pin → List (List Seg × Pin)
with_device device pins = map (λ pin. (device, pin)) pins

-- accesses: what the register space makes of them
module _ {S : Type 0} (accesses : Accesses S) where
  -- the pins of the routing table of a device, if it has one
  unfoldable pub pins_at : List Seg → Change (MachineState S) (List Pin)
  pins_at device s = if has_child device prt s then routing_table accesses device s else (Ok [], s)

  unfoldable pub pins_of_device : List Seg → Change (MachineState S) (List (List Seg × Pin))
  pins_of_device device = do
    pins ← pins_at device
    give (with_device device pins)

  -- the pins of each device, in the order of the devices, each routing table as it is then
  abbrev pub pins_of_each : List (List Seg) → Change (MachineState S) (List (List Seg × Pin))
  pins_of_each list = folded ◌++◌ pins_of_device list []
