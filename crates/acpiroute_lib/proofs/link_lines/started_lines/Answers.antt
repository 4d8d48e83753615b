use Rattle.acpi_machine.specs.Calls.{initialized}
use Rattle.watched_space.specs.Watching.{watched}
use Rattle.acpiroute_lib.specs.Machines.{register_accesses}
use Rattle.acpiroute_lib.specs.LinksAsked.{AreLinksAsked}
use Rattle.acpiroute_lib.proofs.LinkRuns.{lines_initialized}
use Rattle.acpiroute_lib.proofs.Staged.{not_initialized}
use Rattle.acpiroute_lib.proofs.link_lines.started_lines.Goals as goal

pub returns-in-Ok : goal.returns-in-Ok
returns-in-Ok c =
    lines_initialized (initialized (watched register_accesses) c.args.asking.now.mode c.args.machine) c.initialize.new.self c.asked_lines-lines.result
    (λ ready lines. AreLinksAsked register_accesses c.args.asking.now.question c.args.asking.now.evaluation.steps ready lines.items) (c.in-Ok.ensures.answer.is tt) c.asked_lines-lines.ensures

pub returns-in-Err : goal.returns-in-Err
returns-in-Err c =
    not_initialized c.in-Err.refusal (initialized (watched register_accesses) c.args.asking.now.mode c.args.machine) c.initialize.new.self c.no_lines.result
    (λ lines ready. AreLinksAsked register_accesses c.args.asking.now.question c.args.asking.now.evaluation.steps ready lines.items) c.in-Err.ensures.answer.is c.no_lines.ensures
