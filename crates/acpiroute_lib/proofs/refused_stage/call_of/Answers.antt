use Rattle.acpiroute_lib.proofs.Staged.{call_refused, no_call_refused}
use Rattle.acpiroute_lib.proofs.refused_stage.call_of.Goals as goal

pub returns-in-Some : goal.returns-in-Some
returns-in-Some g c = call_refused g.S.Space.accesses c.args.asking.now c.args.machine c.in-Some.path c.in_ok-call.call c.in-Some.is c.in_ok-call.ensures

pub returns-in-None : goal.returns-in-None
returns-in-None g c = no_call_refused g.S.Space.accesses c.args.asking.now c.args.machine c.in_ok-call.call _ c.in-None.is c.in_ok-call.ensures
