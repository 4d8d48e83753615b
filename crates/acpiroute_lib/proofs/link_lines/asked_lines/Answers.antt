use Rattle.acpiroute_lib.specs.Machines.{register_accesses}
use Rattle.acpiroute_lib.proofs.LinkRuns.{lines_routed}
use Rattle.acpiroute_lib.proofs.link_lines.asked_lines.Goals as goal

pub returns-in-Route : goal.returns-in-Route
returns-in-Route c = lines_routed register_accesses c.args.asking.now.evaluation.steps c.args.asking.now.question c.args.machine.now (λ lines. lines.items) c.lines_of.result _ c.as_slice.result.now _ _ c.in-Route.is c.as_slice.ensures c.options_of-options.ensures c.lines_of.ensures
