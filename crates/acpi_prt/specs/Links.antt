-- Interrupt link devices (ACPI 6.5, 6.2.13).
use Rattle.std.specs.Prelude.{◌==◌, codes, List, [], Bool, false, Ok, Err, if◌then◌else◌}
use Rattle.std.specs.Str.{bytes_eq}
use Rattle.ar_space.specs.declared.refusal.Refusal.TheVariants.{RoutingTable}
use Rattle.ar_space.specs.declared.refusal.RoutingTableFault.TheVariants.{NotALink}
use Rattle.ar_space.specs.Accesses.{Accesses}
use Rattle.ar_space.specs.Outcome.{Outcome}
use Rattle.ar_space.specs.Change.{Change, give, settle, ◌>>=◌, ◌>>◌}
use Rattle.aml_path.specs.declared.segment.Seg.{Seg}
use Rattle.aml_world.specs.state.Given as given
use Rattle.acpi_machine.specs.MachineStates.{MachineState}
use Rattle.acpi_machine.specs.Calls.{evaluated_object}
use Rattle.acpi_prt.specs.Children.{child_named}
use Rattle.acpi_prt.specs.Finding.{device_in, id_in}

-- the device at a path, and the name there that holds an integer or a string, or is a control method
unfoldable pub device_at : {S : Type 0} → List Seg → Change (MachineState S) (List Seg)
device_at p s = (device_in s.world.names.map p, s)

unfoldable pub id_at : {S : Type 0} → List Seg → Change (MachineState S) (List Seg)
id_at p s = (id_in s.world.profile s.world.names.map p, s)

-- the hardware id of link devices, as an integer or as a string
abbrev pub is_link_id : given.Given → Bool
is_link_id (given.Integer n) = n == 0x0F0CD041
is_link_id (given.Text bytes) = bytes_eq bytes (codes "PNP0C0F")
is_link_id _ = false

abbrev pub link_id_or_not : given.Given → Outcome (Unit {0})
link_id_or_not id = if is_link_id id then Ok tt else Err (RoutingTable NotALink)

-- the path of the link device at a path
unfoldable pub link_at : {S : Type 0} → Accesses S → List Seg → Change (MachineState S) (List Seg)
link_at accesses p = do
  device ← device_at p
  hid ← settle (child_named device (codes "_HID"))
  name ← id_at hid
  id ← evaluated_object accesses name []
  settle (link_id_or_not id)
  give device
