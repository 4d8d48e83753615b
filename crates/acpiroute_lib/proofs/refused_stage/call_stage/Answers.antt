use Rattle.acpiroute_lib.proofs.Staged.{call_if, call_not_loaded}
use Rattle.acpiroute_lib.proofs.refused_stage.call_stage.Goals as goal

pub returns-in-Ok : goal.returns-in-Ok
returns-in-Ok g c =
    call_if g.S.Space.accesses c.args.asking.now c.args.tables c.args.osi.items c.args.space c.in-Ok.machine c.call_of.result c.in-Ok.ensures.world c.in-Ok.ensures.machine c.call_of.ensures

pub returns-in-Err : goal.returns-in-Err
returns-in-Err g c =
    call_not_loaded g.S.Space.accesses c.args.asking.now c.args.tables c.args.osi.items c.args.space c.in-Err.refusal c.no_stage.result c.in-Err.ensures.refusal c.no_stage.ensures.other
