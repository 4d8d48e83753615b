use Rattle.acpiroute_lib.proofs.Staged.{table_refused, none_refused}
use Rattle.acpiroute_lib.proofs.refused_stage.table_stage.Goals as goal

pub returns-in-Some : goal.returns-in-Some
returns-in-Some g c = table_refused g.S.Space.accesses c.args.asking.now c.args.tables.now c.args.osi.items c.args.space c.in-Some.number c.in_ok-found.found c.in-Some.is c.in_ok-found.ensures

pub returns-in-None : goal.returns-in-None
returns-in-None g c = none_refused g.S.Space.accesses c.args.asking.now c.args.tables.now c.args.osi.items c.args.space c.in_ok-found.found c.in-None.is c.in_ok-found.ensures
