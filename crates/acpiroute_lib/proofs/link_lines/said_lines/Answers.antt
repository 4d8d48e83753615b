use Rattle.std.proofs.Common.{subst}
use Rattle.std.specs.Prelude.{IfOk, Ok}
use Rattle.ar_tables.specs.FindTables.{tables_of}
use Rattle.acpiroute_lib.specs.Machines.{register_accesses}
use Rattle.acpiroute_lib.specs.LinksAsked.{AreLinksIn}
use Rattle.acpiroute_lib.specs.WhyCommand.{first_watch}
use Rattle.acpiroute_lib.proofs.Described.{of_described}
use Rattle.acpiroute_lib.proofs.LinkRuns.{no_tables_told}
use Rattle.acpiroute_lib.proofs.link_lines.said_lines.Goals as goal

pub returns-in-Ok : goal.returns-in-Ok
returns-in-Ok c =
    of_described (λ t osi registers. IfOk c.loaded_lines.result (λ lines. AreLinksIn register_accesses c.args.asking.now t osi (first_watch c.args.asking.now.evaluation registers) lines.items)) c.args.said c.in-Ok.machine.tables c.in-Ok.machine.osi.items c.in-Ok.machine.registers
    c.in-Ok.ensures.tables c.in-Ok.ensures.osi c.in-Ok.ensures.registers
    (subst (λ s. IfOk c.loaded_lines.result (λ lines. AreLinksIn register_accesses c.args.asking.now (Ok c.in-Ok.machine.tables) c.in-Ok.machine.osi.items s lines.items)) c.first_watch-space.ensures c.loaded_lines.ensures)

pub returns-in-Err : goal.returns-in-Err
returns-in-Err c =
    no_tables_told register_accesses c.args.asking.now (tables_of c.args.said.space.memory c.args.said.rsdp) c.args.said.osi (first_watch c.args.asking.now.evaluation c.args.said.space) (λ lines. lines.items) c.in-Err.refusal c.no_lines.result
    c.in-Err.ensures.tables.is c.no_lines.ensures
