use Rattle.std.proofs.Common.{◌≡◌, map}
use Rattle.std.specs.List.{filter_map}
use Rattle.acpi_machine.specs.Kinds.{kind_seen}
use Rattle.acpi_links.specs.Devices.{device_path}
use Rattle.acpi_links.proofs.devices.only_devices.Given as goal

abbrev pub invariant-loop-path : goal.invariant-loop-path
invariant-loop-path l = l.list.items ≡ filter_map device_path (map (λ node. (node.0, kind_seen node.1)) l.yielded)
