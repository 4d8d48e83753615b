use Rattle.std.proofs.Common.{◌≡◌}
use Rattle.acpi_links.specs.Devices.{with_device}
use Rattle.acpi_links.proofs.devices.with_device.Given as goal

abbrev pub invariant-loop-pin : goal.invariant-loop-pin
invariant-loop-pin l = l.list.items ≡ with_device l.device l.yielded
