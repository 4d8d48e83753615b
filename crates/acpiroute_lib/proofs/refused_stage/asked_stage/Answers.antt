use Rattle.acpiroute_lib.proofs.Staged.{routed_if, named_if}
use Rattle.acpiroute_lib.proofs.refused_stage.asked_stage.Goals as goal

pub returns-in-Route : goal.returns-in-Route
returns-in-Route g c =
    routed_if g.S.Space.accesses c.args.asking.now c.args.tables c.args.osi.items c.args.space c.object_stage.result _ c.as_slice.result.now _ c.in-Route.is c.as_slice.ensures c.object_stage.ensures

pub returns-in-Eval : goal.returns-in-Eval
returns-in-Eval g c =
    named_if g.S.Space.accesses c.args.asking.now c.args.tables c.args.osi.items c.args.space c.named_stage.result _ c.as_str.result.now _ c.in-Eval.is c.as_str.ensures c.named_stage.ensures
