use Rattle.std.specs.Prelude.{codes}
use Rattle.acpi_links.specs.Resources.{current_resources}
use Rattle.acpi_explain.specs.Halting.{IsNamed}
use Rattle.acpi_explain.proofs.Found.{halted_by}
use Rattle.acpi_explain.proofs.objects.ask_setting.Goals as goal

pub returns-in-Ok-clause-asked : goal.returns-in-Ok-clause-asked
returns-in-Ok-clause-asked g c = c.in-Ok.ensures.value.is tt

pub returns-in-Err-clause-halted : goal.returns-in-Err-clause-halted
returns-in-Err-clause-halted g c =
    halted_by (current_resources g.S.Space.accesses c.args.link.now) (IsNamed c.args.link.now (codes "_CRS")) c.args.machine.now c.get_current_resources.new.machine c.in-Err.refusal c.object_halt.result c.in-Err.ensures.value c.object_halt.ensures
