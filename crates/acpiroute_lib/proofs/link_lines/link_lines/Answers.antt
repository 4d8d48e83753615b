use Rattle.ar_tables.specs.FindTables.{tables_of}
use Rattle.machine_text.specs.MachineText.{machine_text}
use Rattle.acpiroute_lib.specs.Machines.{register_accesses}
use Rattle.acpiroute_lib.specs.LinksAsked.{AreLinksIn}
use Rattle.acpiroute_lib.specs.WhyCommand.{first_watch}
use Rattle.acpiroute_lib.proofs.Staged.{of_all, of_refused}
use Rattle.acpiroute_lib.proofs.link_lines.link_lines.Goals as goal

pub returns-in-Ok : goal.returns-in-Ok
returns-in-Ok c =
    of_all (machine_text c.args.text.now) c.in-Ok.said c.said_lines.result (λ said lines. AreLinksIn register_accesses c.args.asking.now (tables_of said.space.memory said.rsdp) said.osi (first_watch c.args.asking.now.evaluation said.space) lines.items)
    (c.in-Ok.ensures.is tt) c.said_lines.ensures

pub returns-in-Err : goal.returns-in-Err
returns-in-Err c =
    of_refused c.in-Err.refusal (machine_text c.args.text.now) c.no_lines.result (λ said lines. AreLinksIn register_accesses c.args.asking.now (tables_of said.space.memory said.rsdp) said.osi (first_watch c.args.asking.now.evaluation said.space) lines.items)
    c.in-Err.ensures.is c.no_lines.ensures
