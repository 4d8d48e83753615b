use Rattle.acpi_configure.specs.WithOptions.{found_by}
use Rattle.acpi_machine.specs.MachineStates.{MachineState, sci_of}
use Rattle.watched_space.specs.Watching.{Watch, watched}
use Rattle.acpi_explain.specs.LinkLines.{AreLinksExplained}
use Rattle.acpiroute_lib.specs.Machines.{Registers, register_accesses}
use Rattle.acpiroute_lib.proofs.LinkRuns.{never_found}
use Rattle.acpiroute_lib.proofs.link_lines.lines_of.Goals as goal

pub returns-in-Ok : goal.returns-in-Ok
returns-in-Ok c = λ found after is. (c.explain_links.new.machine, c.in-Ok.ensures.lines)

pub returns-in-Err : goal.returns-in-Err
returns-in-Err c =
    never_found c.in-Err.refusal (found_by (watched register_accesses) c.args.options.now (sci_of c.args.machine.now) c.args.machine.now) c.explain_links.new.machine c.no_lines.result
    (λ found after lines. (left : MachineState (Watch Registers)) × AreLinksExplained register_accesses c.args.evaluation.steps c.args.options.now c.args.machine.now left lines.items) c.in-Err.ensures.refusal c.no_lines.ensures
