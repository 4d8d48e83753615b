use Rattle.acpi_explain.specs.Halting.{IsNamed}
use Rattle.acpi_explain.specs.declared.stage.Stage.TheVariants.{Reading}
use Rattle.acpi_explain.proofs.Halted.{halt_there}
use Rattle.acpi_explain.proofs.objects.object_halt.Goals as goal

pub returns-in-Ok : goal.returns-in-Ok
returns-in-Ok c = halt_there c.args.refusal.now (Reading c.in-Ok.path) (IsNamed c.args.link.now c.args.name) c.halt_at.result c.halt_at.ensures (c.in-Ok.ensures.is tt)
