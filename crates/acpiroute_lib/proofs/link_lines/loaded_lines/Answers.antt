use Rattle.acpiroute_lib.specs.Machines.{register_accesses}
use Rattle.acpiroute_lib.proofs.LinkRuns.{lines_loaded, lines_not_loaded}
use Rattle.acpiroute_lib.proofs.link_lines.loaded_lines.Goals as goal

pub returns-in-Ok : goal.returns-in-Ok
returns-in-Ok c = lines_loaded register_accesses c.args.asking.now c.args.tables c.args.osi.items c.args.space (λ lines. lines.items) c.in-Ok.machine c.started_lines.result c.in-Ok.ensures.world c.in-Ok.ensures.machine c.started_lines.ensures

pub returns-in-Err : goal.returns-in-Err
returns-in-Err c = lines_not_loaded register_accesses c.args.asking.now c.args.tables c.args.osi.items c.args.space (λ lines. lines.items) c.in-Err.refusal c.no_lines.result c.in-Err.ensures.refusal c.no_lines.ensures
