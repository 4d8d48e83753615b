use Rattle.machine_laws.proofs.KernelLinesTold.{pin_has_bus}
use Rattle.machine_laws.proofs.kernel_lines.the_device_of_each_pin_has_one_line_bus.Goals as goal

pub returns : goal.returns
returns g c = pin_has_bus
