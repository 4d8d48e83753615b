use Rattle.std.proofs.Common.{◌++◌, drop}
use Rattle.acpi_machine.proofs.Stopping.{Goes}
use Rattle.ar_space.specs.Change.{Same}
use Rattle.acpi_links.specs.Folds.{folded}
use Rattle.acpi_links.specs.Devices.{pins_of_device, pins_of_each}
use Rattle.acpi_links.specs.Stops.{StopsInTables}
use Rattle.acpi_links.proofs.devices.pins_of_each.Given as goal

abbrev pub invariant-loop-device : goal.invariant-loop-device
invariant-loop-device g l =
    Same (pins_of_each g.S.Space.accesses l.devices) l.fn.machine (folded ◌++◌ (pins_of_device g.S.Space.accesses) (drop l.device-index l.devices) l.list.items) l.machine
    × Goes (StopsInTables g.S.Space.accesses l.devices) l.fn.machine (StopsInTables g.S.Space.accesses (drop l.device-index l.devices)) l.machine
