use Rattle.acpi_explain.proofs.Found.{stage_handed, together_told}
use Rattle.acpi_explain.proofs.objects.refused_object.Goals as goal

pub returns-in-Ok : goal.returns-in-Ok
returns-in-Ok g c = together_told g.S.Space.accesses c.args.avoid.now c.args.machine.now c.in-Ok.ensures.asked

pub returns-in-Err : goal.returns-in-Err
returns-in-Err g c = stage_handed g.S.Space.accesses c.args.avoid.now c.args.machine.now c.ask_all.new.machine c.in-Err.halt c.into_stage.result c.into_stage.ensures c.in-Err.ensures.halted
