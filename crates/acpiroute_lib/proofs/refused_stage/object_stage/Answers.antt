use Rattle.acpiroute_lib.proofs.Staged.{object_if, object_not_loaded}
use Rattle.acpiroute_lib.proofs.refused_stage.object_stage.Goals as goal

pub returns-in-Ok : goal.returns-in-Ok
returns-in-Ok g c =
    object_if g.S.Space.accesses c.args.asking.now c.args.tables c.args.osi.items c.args.space c.in-Ok.machine c.object_of.result c.args.avoid.now c.in-Ok.ensures.world c.in-Ok.ensures.machine c.object_of.ensures

pub returns-in-Err : goal.returns-in-Err
returns-in-Err g c =
    object_not_loaded g.S.Space.accesses c.args.asking.now c.args.tables c.args.osi.items c.args.space c.in-Err.refusal c.no_stage.result c.args.avoid.now c.in-Err.ensures.refusal c.no_stage.ensures.other
