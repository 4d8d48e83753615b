use Rattle.std.proofs.Common.{◌++◌, ◌∷◌, [], drop}
use Rattle.ar_space.specs.Change.{Same}
use Rattle.acpi_machine.proofs.Stopping.{Goes}
use Rattle.acpi_links.specs.Folds.{folded}
use Rattle.acpi_configure.specs.Others.{device_asked, devices_asked}
use Rattle.acpi_configure.specs.Stops.{StopsInDevices}
use Rattle.acpi_configure.proofs.others.ask_devices.Given as goal

abbrev pub invariant-loop-device : goal.invariant-loop-device
invariant-loop-device g l =
    Same (devices_asked g.S.Space.accesses l.devices) l.fn.machine (folded (λ done line. done ++ line ∷ []) (device_asked g.S.Space.accesses) (drop l.device-index l.devices) l.list.items) l.machine
    × Goes (StopsInDevices g.S.Space.accesses l.devices) l.fn.machine (StopsInDevices g.S.Space.accesses (drop l.device-index l.devices)) l.machine
