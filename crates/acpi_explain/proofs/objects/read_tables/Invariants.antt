use Rattle.std.proofs.Common.{◌++◌, drop, take}
use Rattle.ar_space.specs.Change.{Same}
use Rattle.acpi_links.specs.Devices.{pins_of_device, pins_of_each}
use Rattle.acpi_links.specs.Folds.{folded}
use Rattle.acpi_explain.specs.Refused.{AreAnswered}
use Rattle.acpi_explain.proofs.objects.read_tables.Given as goal

abbrev pub invariant-loop-device : goal.invariant-loop-device
invariant-loop-device g l =
    Same (pins_of_each g.S.Space.accesses l.devices) l.fn.machine (folded ◌++◌ (pins_of_device g.S.Space.accesses) (drop l.device-index l.devices) l.list.items) l.machine
    × AreAnswered (pins_of_device g.S.Space.accesses) (take l.device-index l.devices) l.fn.machine l.machine
