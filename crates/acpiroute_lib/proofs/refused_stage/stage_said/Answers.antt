use Rattle.std.proofs.Common.{subst}
use Rattle.std.specs.Prelude.{IfOk, Some, Ok}
use Rattle.acpiroute_lib.specs.Machines.{register_accesses}
use Rattle.ar_tables.specs.FindTables.{tables_of}
use Rattle.watched_space.specs.Watching.{watched}
use Rattle.acpiroute_lib.specs.WhyCommand.{first_watch}
use Rattle.acpiroute_lib.specs.WhyStages.{IsStageIn}
use Rattle.acpiroute_lib.proofs.Described.{of_described}
use Rattle.acpiroute_lib.proofs.Staged.{no_tables}
use Rattle.acpiroute_lib.proofs.refused_stage.stage_said.Goals as goal

pub returns-in-Ok : goal.returns-in-Ok
returns-in-Ok c =
    of_described (λ t osi registers. IfOk c.stage_in.result (IsStageIn (watched register_accesses) (Some c.args.phase) c.args.asking.now t osi (first_watch c.args.asking.now.evaluation registers))) c.args.said c.in-Ok.machine.tables c.in-Ok.machine.osi.items
    c.in-Ok.machine.registers c.in-Ok.ensures.tables c.in-Ok.ensures.osi c.in-Ok.ensures.registers
    (subst (λ s. IfOk c.stage_in.result (IsStageIn (watched register_accesses) (Some c.args.phase) c.args.asking.now (Ok c.in-Ok.machine.tables) c.in-Ok.machine.osi.items s)) c.first_watch.ensures c.stage_in.ensures)

pub returns-in-Err : goal.returns-in-Err
returns-in-Err c =
    no_tables (watched register_accesses) c.args.asking.now (tables_of c.args.said.space.memory c.args.said.rsdp) c.args.said.osi (first_watch c.args.asking.now.evaluation c.args.said.space) c.args.phase c.in-Err.refusal c.no_stage.result
    c.in-Err.ensures.tables.is c.no_stage.ensures.other
