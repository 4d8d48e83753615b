use Rattle.std.proofs.Common.{◌++◌, ◌∷◌, [], drop}
use Rattle.ar_space.specs.Change.{Same}
use Rattle.acpi_machine.proofs.Stopping.{Goes}
use Rattle.acpi_links.specs.Folds.{folded}
use Rattle.acpi_configure.specs.ForKernels.{bus_asked, buses_asked}
use Rattle.acpi_configure.specs.KernelStops.{StopsInBuses}
use Rattle.acpi_configure.proofs.for_kernels.ask_buses.Given as goal

abbrev pub invariant-loop-device : goal.invariant-loop-device
invariant-loop-device g l =
    Same (buses_asked g.S.Space.accesses l.devices) l.fn.machine (folded (λ done line. done ++ line ∷ []) (bus_asked g.S.Space.accesses) (drop l.device-index l.devices) l.list.items) l.machine
    × Goes (StopsInBuses g.S.Space.accesses l.devices) l.fn.machine (StopsInBuses g.S.Space.accesses (drop l.device-index l.devices)) l.machine
