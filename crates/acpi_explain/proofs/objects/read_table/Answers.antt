use Rattle.std.proofs.Common.{◌≡◌}
use Rattle.acpi_links.specs.Devices.{pins_of_device}
use Rattle.acpi_explain.specs.declared.stage.Stage.TheVariants.{RoutingTable}
use Rattle.acpi_explain.proofs.Found.{halted_by}
use Rattle.acpi_explain.proofs.objects.read_table.Goals as goal

pub returns-in-Ok-clause-read : goal.returns-in-Ok-clause-read
returns-in-Ok-clause-read g c = c.in-Ok.ensures.value.is tt

pub returns-in-Err-clause-halted : goal.returns-in-Err-clause-halted
returns-in-Err-clause-halted g c =
    halted_by (pins_of_device g.S.Space.accesses c.args.device.now) (λ stage. stage ≡ RoutingTable c.args.device.now) c.args.machine.now c.pins_of_device.new.machine c.in-Err.refusal c.table_halt.result c.in-Err.ensures.value c.table_halt.ensures
