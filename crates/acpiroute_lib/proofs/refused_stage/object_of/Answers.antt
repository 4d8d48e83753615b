use Rattle.std.specs.Prelude.{◌≡◌, Some}
use Rattle.acpi_machine.specs.Calls.{initialized}
use Rattle.acpi_explain.specs.Stages.{IsStage}
use Rattle.acpi_explain.specs.declared.stage.Stage.{Stage}
use Rattle.acpiroute_lib.proofs.Staged.{initialized_so, not_initialized}
use Rattle.acpiroute_lib.proofs.refused_stage.object_of.Goals as goal

pub returns-in_ok-stage-in-Ok : goal.returns-in_ok-stage-in-Ok
returns-in_ok-stage-in-Ok g c =
    initialized_so (initialized g.S.Space.accesses c.args.asking.now.mode c.args.machine) c.initialize.new.self c.in_ok-stage-in-Ok.stage (λ ready s. IsStage g.S.Space.accesses c.args.avoid.now ready s) (c.in-Ok.ensures.answer.is tt) c.in_ok-stage-in-Ok.ensures

pub returns-in-Err : goal.returns-in-Err
returns-in-Err g c =
    not_initialized c.in-Err.refusal (initialized g.S.Space.accesses c.args.asking.now.mode c.args.machine) c.initialize.new.self c.no_stage.result
    (λ stage ready. (s : Stage) × ((stage ≡ Some s) × IsStage g.S.Space.accesses c.args.avoid.now ready s)) c.in-Err.ensures.answer.is c.no_stage.ensures.other
