use Rattle.std.proofs.Common.{◌≡◌, ap}
use Rattle.acpi_explain.specs.declared.stage.Stage.TheVariants.{RoutingTable}
use Rattle.acpi_explain.proofs.Halted.{halt_there}
use Rattle.acpi_explain.proofs.objects.table_halt.Goals as goal

pub returns-in-Ok : goal.returns-in-Ok
returns-in-Ok c = halt_there c.args.refusal.now (RoutingTable c.in-Ok.device) (λ stage. stage ≡ RoutingTable c.args.device.now) c.halt_at.result c.halt_at.ensures (ap RoutingTable c.in-Ok.ensures)
